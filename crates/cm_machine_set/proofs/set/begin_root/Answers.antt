use Rattle.std.proofs.Common.{◌≡◌, ℕ, ◌<◌, List, ◌∷◌, length, sym, ap, subst, ◌∙◌, arith}
use Rattle.std.specs.Prelude.{slice_set}
use Rattle.cm_machine_model.specs.declared.frame.Frame.{Frame}
use Rattle.cm_machine_model.specs.declared.frame.Purpose.TheVariants as purpose
use Rattle.cm_machine_model.specs.Run.{after_begin}
use Rattle.cm_machine_model.specs.State.{State}
use Rattle.cm_machine_model.specs.Valid.{IsValidState}
use Rattle.cm_machine_parts.specs.Kept.{AreBorrowsCounted, IsEncodedAtTop}
use Rattle.cm_machine_parts.specs.States.{state_of}
use Rattle.cm_machine_set.proofs.set.begin_root.Goals as goal

pub returns-clause-begun : goal.returns-clause-begun
returns-clause-begun c =
    let s : State = state_of c.args.state.now in
    let root : Frame = record { instance = c.args.instance; purpose = purpose.Root } in
    ap (λ (fs : List Frame). record s { stack = fs }) (c.push.ensures.frames ∙ ap (λ (fs : List Frame). root ∷ fs) c.requires.empty)

pub returns-clause-runs : goal.returns-clause-runs
returns-clause-runs c plan runs =
    let s : State = state_of c.args.state.now in
    let root : Frame = record { instance = c.args.instance; purpose = purpose.Root } in
    let borrows : List ℕ = c.args.state.now.stack.borrows in
    let begun : ◌≡◌ {A = State} (record s { stack = c.push.new.self.frames }) (after_begin s c.args.instance) = ap (λ (fs : List Frame). record s { stack = fs }) (c.push.ensures.frames ∙ ap (λ (fs : List Frame). root ∷ fs) c.requires.empty) in
    let room : length s.stack < length borrows = omega (arith, c.len.ensures.numbers, ap (λ (fs : List Frame). length fs) c.requires.empty) in
    let counted : AreBorrowsCounted (slice_set borrows (length s.stack) 0) (root ∷ s.stack) s.tables = c.what_is_kept_stays.ensures.pushed borrows root s.stack s.tables runs.kept.counted room (c.frames_have_instances.ensures.unborrowed plan s c.args.instance runs.valid) in
    record {
      valid = subst (λ (x : State). IsValidState plan x) (sym begun) (c.machine_starts_valid.ensures.begun plan s c.args.instance runs.valid c.requires.empty c.requires.opened);
      kept = record {
        counted = subst (λ (bs : List ℕ). AreBorrowsCounted bs c.push.new.self.frames s.tables) (sym c.push.ensures.borrows) (subst (λ (fs : List Frame). AreBorrowsCounted (slice_set borrows (length s.stack) 0) fs s.tables) (sym c.push.ensures.frames) counted);
        encoded = subst (λ (fs : List Frame). IsEncodedAtTop plan c.args.state.now.passing fs) (sym c.push.ensures.frames) tt;
      };
    }
