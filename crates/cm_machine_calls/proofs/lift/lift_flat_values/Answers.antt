use Rattle.std.proofs.Common.{◌≡◌, ◌^◌, ◌∙◌, ap, sym, subst, refl, List, [], arith}
use Rattle.std.specs.Prelude.{Bool, None, Some, if◌then◌else◌, slice_set, unwrap_or}
use Rattle.cm_types.specs.declared.core_value.CoreValue.{CoreValue}
use Rattle.cm_handles.specs.Handles.{Handles, IsSoundHandles, TableState, no_handles}
use Rattle.cm_abi_model.specs.HandleLeaves.{owned_in}
use Rattle.cm_abi_model.specs.Lifts.{IsGivenBy, LendsBelow}
use Rattle.cm_abi_model.specs.Receives.{HandleLeaf}
use Rattle.cm_abi_model.specs.Taken.{met}
use Rattle.cm_abi_model.specs.Ways.{way_of}
use Rattle.cm_machine_model.specs.declared.frame.Place.TheVariants as places
use Rattle.cm_machine_model.specs.Passages.{IsScanned}
use Rattle.cm_machine_model.specs.Plan.{giver_side, types_of}
use Rattle.cm_machine_model.specs.State.{State, table_at, view_of, with_places}
use Rattle.cm_machine_parts.specs.States.{handles_in, state_of}
use Rattle.cm_machine_calls.specs.Lifting.{passage_in}
use Rattle.cm_machine_calls.proofs.Pairs.{at_same}
use Rattle.cm_machine_calls.proofs.Scans.{lifted_same, scanned_is}
use Rattle.cm_machine_calls.proofs.Tables.{none_lifted}
use Rattle.cm_machine_calls.proofs.lift.lift_flat_values.Goals as goal
use Rattle.cm_machine_parts.proofs.Standing.{table_read}
use Rattle.cm_machine_parts.proofs.Tables.{length_handles, handles_set}

pub scan_flat_values-requires-clause-lends : goal.scan_flat_values-requires-clause-lends
scan_flat_values-requires-clause-lends c =
    subst (LendsBelow (2 ^ 100)) (table_read c.args.state.now.tables.items c.args.giver c.index_mut-table.result.now c.requires.table c.index_mut-table.ensures.value) c.requires.lends

pub returns-in-Err-clause-lifts : goal.returns-in-Err-clause-lifts
returns-in-Err-clause-lifts c = λ l call is.
    let source = (giver_side l (way_of c.args.way)).encoding in
    let w = view_of (state_of c.args.state.now) c.args.giver source call in
    let given : IsGivenBy w c.in-Some.memory.now c.index_mut-table.result.now.handles source =
    record {
      memory_is = sym (ap (λ o. unwrap_or o []) c.in-Some.ensures);
      table_is = table_read c.args.state.now.tables.items c.args.giver c.index_mut-table.result.now c.requires.table c.index_mut-table.ensures.value;
      encoding_is = refl;
    } in
    c.in-Err.ensures.looks l w is given

pub returns-in-Err-clause-unchanged : goal.returns-in-Err-clause-unchanged
returns-in-Err-clause-unchanged c =
    let table = table_read c.args.state.now.tables.items c.args.giver c.index_mut-table.result.now c.requires.table c.index_mut-table.ensures.value in
    none_lifted c.args.state.now c.args.giver c.scan_flat_values.new.table c.scan_flat_values.new.kept (ap (λ (t : TableState). t.handles) c.in-Err.ensures.unchanged ∙ sym table) c.requires.idle c.in-Err.ensures.none

pub returns-clause-lifts : goal.returns-clause-lifts
returns-clause-lifts c = λ l call is.
    let way = way_of c.args.way in
    let source = (giver_side l way).encoding in
    let w = view_of (state_of c.args.state.now) c.args.giver source call in
    let table = table_read c.args.state.now.tables.items c.args.giver c.index_mut-table.result.now c.requires.table c.index_mut-table.ensures.value in
    let given : IsGivenBy w c.in-Some.memory.now c.index_mut-table.result.now.handles source =
    record { memory_is = sym (ap (λ o. unwrap_or o []) c.in-Some.ensures); table_is = table; encoding_is = refl } in
    let seen = c.in-Ok.ensures.looks l w is given in
    let ms = met w way (types_of l way) c.args.slots.now seen.v in
    let slots : c.args.slots.now ≡ c.set.new.self = sym c.set.ensures in
    let tables : handles_in (slice_set c.args.state.now.tables.items c.args.giver c.scan_flat_values.new.table) ≡ slice_set (handles_in c.args.state.now.tables.items) c.args.giver c.scan_flat_values.new.table.handles =
    handles_set c.args.state.now.tables.items c.args.giver c.scan_flat_values.new.table in
    record {
      v = seen.v;
      denoted = seen.scans.lifts.1.denoted;
      transferable = seen.scans.lifts.1.transferable;
      scanned = subst (λ (s : List CoreValue). IsScanned w l way c.args.slots.now seen.v (passage_in s c.scan_flat_values.new.kept)) slots (scanned_is c.records_ask_for_parts.ensures.call w l way c.args.slots.now c.scan_flat_values.new.table.handles c.scan_flat_values.new.kept refl seen);
      is = ap {B = State} (λ (b : Bool). record (state_of c.args.state.now) {
        tables = handles_in (slice_set c.args.state.now.tables.items c.args.giver c.scan_flat_values.new.table);
        owners = c.put_owners.new.owners.items;
        passage = if b then Some (passage_in c.set.new.self c.scan_flat_values.new.kept) else None;
      }) c.in-Ok.ensures.value
          ∙ lifted_same (state_of c.args.state.now) c.args.giver c.args.place ms _ _ _
          (tables ∙ ap (slice_set (handles_in c.args.state.now.tables.items) c.args.giver) seen.scans.lifts.1.table)
          (c.put_owners.ensures ∙ ap (λ (x : List HandleLeaf). with_places (places.Travelling c.args.place) (owned_in x) c.args.state.now.owners.items) c.handles.ensures);
      lends_are = seen.scans.lifts.1.lends;
      sound = subst IsSoundHandles (sym (ap (λ (x : List Handles). table_at x c.args.giver) tables ∙ at_same (handles_in c.args.state.now.tables.items) c.args.giver c.scan_flat_values.new.table.handles no_handles (omega (arith, c.requires.table, length_handles c.args.state.now.tables.items)))) seen.sound;
      some = seen.some;
    }

pub returns-clause-encoded : goal.returns-clause-encoded
returns-clause-encoded c = λ l is.
    let way = way_of c.args.way in
    let source = (giver_side l way).encoding in
    let w = view_of (state_of c.args.state.now) c.args.giver source 0 in
    let given : IsGivenBy w c.in-Some.memory.now c.index_mut-table.result.now.handles source =
    record {
      memory_is = sym (ap (λ o. unwrap_or o []) c.in-Some.ensures);
      table_is = table_read c.args.state.now.tables.items c.args.giver c.index_mut-table.result.now c.requires.table c.index_mut-table.ensures.value;
      encoding_is = refl;
    } in
    let seen = c.in-Ok.ensures.looks l w is given in
    (seen.scans.source, seen.scans.goes_to)
