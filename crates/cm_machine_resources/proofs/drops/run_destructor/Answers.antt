use Rattle.std.proofs.Common.{◌≡◌, ℕ, ◌<◌, List, ◌∷◌, Some, length, sym, ap, subst, ◌∙◌, arith}
use Rattle.std.specs.Prelude.{slice_set}
use Rattle.cm_handles.specs.Handles.{Handles, handle_at}
use Rattle.cm_machine_model.specs.declared.frame.Frame.{Frame}
use Rattle.cm_machine_model.specs.declared.frame.Purpose.TheVariants as purpose
use Rattle.cm_machine_model.specs.State.{State, table_at}
use Rattle.cm_machine_model.specs.Step.{after_drop}
use Rattle.cm_machine_parts.specs.Kept.{AreBorrowsCounted, IsEncodedAtTop}
use Rattle.cm_machine_parts.specs.States.{state_of}
use Rattle.cm_machine_resources.proofs.Finding.{found_stands}
use Rattle.cm_machine_resources.proofs.drops.run_destructor.Goals as goal

pub release_owned-requires-clause-made : goal.release_owned-requires-clause-made
release_owned-requires-clause-made c =
    let s : State = state_of c.args.state.now in
    let d = c.args.dropped.now in
    let stands : handle_at (table_at s.tables d.instance) d.index ≡ Some d.handle = found_stands (table_at s.tables d.instance) d.index d.resource d.handle c.requires.found.1 in
    c.requires.runs.1.valid.made d.instance d.index d.handle stands

pub returns-clause-runs : goal.returns-clause-runs
returns-clause-runs c =
    let s : State = state_of c.args.state.now in
    let d = c.args.dropped.now in
    c.release_owned.ensures.dropped ∙ ap (λ (fs : List Frame). after_drop (record s { stack = fs }) d.instance d.index d.handle) c.push.ensures.frames

pub returns-clause-kept : goal.returns-clause-kept
returns-clause-kept c plan runs =
    let s : State = state_of c.args.state.now in
    let d = c.args.dropped.now in
    let frame : Frame = record { instance = d.resource.component; purpose = purpose.Destructor d.instance } in
    let borrows : List ℕ = c.args.state.now.stack.borrows in
    let room : length s.stack < length borrows = omega (arith, c.len.ensures.numbers, c.requires.room) in
    let counted : AreBorrowsCounted (slice_set borrows (length s.stack) 0) (frame ∷ s.stack) s.tables = c.what_is_kept_stays.ensures.pushed borrows frame s.stack s.tables runs.kept.counted room (c.frames_have_instances.ensures.unborrowed plan s d.resource.component runs.valid) in
    let there : AreBorrowsCounted c.push.new.self.borrows c.push.new.self.frames s.tables = subst (λ (bs : List ℕ). AreBorrowsCounted bs c.push.new.self.frames s.tables) (sym c.push.ensures.borrows) (subst (λ (fs : List Frame). AreBorrowsCounted (slice_set borrows (length s.stack) 0) fs s.tables) (sym c.push.ensures.frames) counted) in
    let frames = ap (λ x. x.frames) c.release_owned.ensures.stack ∙ c.push.ensures.frames in
    record {
      counted = c.release_owned.ensures.counted there;
      encoded = subst (λ (fs : List Frame). IsEncodedAtTop plan c.release_owned.new.state.passing fs) (sym frames) tt;
    }
