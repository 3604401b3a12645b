use Rattle.std.proofs.Common.{◌≡◌, ℕ, ◌<◌, List, Some, length, sym, ap, subst, ◌∙◌, arith}
use Rattle.std.specs.Prelude.{slice_set}
use Rattle.cm_handles.specs.Borrows.{borrows_of}
use Rattle.cm_handles.specs.Handles.{Handles, after_release, handle_at}
use Rattle.cm_machine_model.specs.declared.frame.Place.TheVariants as place
use Rattle.cm_machine_model.specs.State.{State, table_at}
use Rattle.cm_machine_parts.specs.Kept.{AreBorrowsCounted}
use Rattle.cm_machine_parts.specs.States.{handles_in, state_of}
use Rattle.cm_machine_resources.proofs.Finding.{found_stands, owned_same}
use Rattle.cm_machine_resources.proofs.drops.release_owned.Goals as goal

pub returns-clause-dropped : goal.returns-clause-dropped
returns-clause-dropped c =
    let s : State = state_of c.args.state.now in
    ap (λ (ts : List Handles). record s { tables = ts; owners = slice_set s.owners c.args.dropped.now.handle.serial place.Dropped }) c.release.ensures

pub returns-clause-counted : goal.returns-clause-counted
returns-clause-counted c counted =
    let s : State = state_of c.args.state.now in
    let d = c.args.dropped.now in
    let table : Handles = table_at s.tables d.instance in
    let stands : handle_at table d.index ≡ Some d.handle = found_stands table d.index d.resource d.handle c.requires.found.1 in
    let same : (call : ℕ) → borrows_of call (after_release table d.index) ≡ borrows_of call table = λ call. owned_same c.borrows_are_counted.ensures.release table d.index d.handle call stands c.requires.owned in
    let more = c.what_is_kept_stays.ensures.changed c.args.state.now.stack.borrows s.stack s.tables d.instance (after_release table d.index) counted same in
    subst (λ (ts : List Handles). AreBorrowsCounted c.args.state.now.stack.borrows s.stack ts) (sym c.release.ensures) more
