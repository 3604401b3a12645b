use Rattle.std.proofs.Common.{◌^◌, arith, subst, sym}
use Rattle.std.proofs.lemmas.Grind.{common_steps}
use Rattle.cm_abi_model.specs.Lifts.{LendsBelow}
use Rattle.huxarte_c_calls.proofs.HandleLaws.{lent_never}
use Rattle.huxarte_c_calls.proofs.handles.table_of.Goals as goal

pub loop-handle-init : goal.loop-handle-init
loop-handle-init c = record {
  handles = c.new-table.ensures.empty;
  lends = subst (LendsBelow (2 ^ 100)) (sym c.new-table.ensures.empty) (lent_never (2 ^ 100));
}

pub loop-handle-preserved : goal.loop-handle-preserved
loop-handle-preserved c = record {
  handles = let step = c.in_ok-add_handle.ensures.handles _ c.loop-handle.invariant.handles in grind (arith, common_steps);
  lends = c.in_ok-add_handle.ensures.lends c.loop-handle.invariant.lends;
}
