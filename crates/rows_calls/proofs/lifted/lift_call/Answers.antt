use Rattle.std.proofs.Common.{refl, subst}
use Rattle.std.proofs.lemmas.Result.{IfOk-weaker}
use Rattle.cm_types.specs.ValueTrees.{values_of}
use Rattle.cm_types.specs.Values.{parts}
use Rattle.cm_abi_model.specs.Views.{View}
use Rattle.cm_abi_model.specs.Ways.{way_of}
use Rattle.cm_abi_model.specs.Lifts.{Lifts}
use Rattle.cm_abi_lift.specs.Lifts.{handed_with}
use Rattle.rows_calls.specs.Calls.{IsLifted}
use Rattle.rows_calls.proofs.lifted.lift_call.Goals as goal

-- what is lifted was lifted in a view of the giver's memory and table
pub returns : goal.returns
returns c =
    let types = c.requires.call.0 in
    let is = c.requires.call.1 in
    let w : View = record { memory = c.deref-memory.result.now; table = c.args.table.now.handles; instance = 0; encoding = c.args.call.now.sides.source; call = 0 } in
    IfOk-weaker c.lift.result _ (IsLifted c.args.call.now) (λ l done. record {
      types = types;
      is_of = is;
      giver = w;
      hands = handed_with c.lift.new.table.handles l;
      encoding = refl;
      bytes = c.are_bytes.ensures;
      lifts = subst (λ slots. Lifts w (way_of c.args.call.now.way) types slots (parts (values_of l.values.items)) l.tagged.items (handed_with c.lift.new.table.handles l)) c.deref.ensures.value done;
    }) (c.lift.ensures.lifts w types (record { memory_is = refl; table_is = refl; encoding_is = refl }) is.layout)
