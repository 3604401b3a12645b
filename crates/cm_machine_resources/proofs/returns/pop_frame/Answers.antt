use Rattle.std.proofs.Common.{ℕ, List, refl, sym, subst}
use Rattle.cm_machine_model.specs.declared.frame.Frame.{Frame}
use Rattle.cm_machine_model.specs.Stack.{below_top}
use Rattle.cm_machine_model.specs.State.{State}
use Rattle.cm_machine_parts.specs.Kept.{AreBorrowsCounted, IsEncodedAtTop}
use Rattle.cm_machine_parts.specs.States.{state_of}
use Rattle.cm_machine_resources.proofs.returns.pop_frame.Goals as goal

pub returns-clause-kept : goal.returns-clause-kept
returns-clause-kept c plan runs =
    let s : State = state_of c.args.state.now in
    let borrows : List ℕ = c.args.state.now.stack.borrows in
    let counted : AreBorrowsCounted borrows (below_top s.stack) s.tables = c.what_is_kept_stays.ensures.popped borrows s.stack s.tables s.tables runs.kept.counted (λ call i. refl) in
    record {
      counted = subst (λ (bs : List ℕ). AreBorrowsCounted bs c.pop.new.self.frames s.tables) (sym c.pop.ensures.borrows) (subst (λ (fs : List Frame). AreBorrowsCounted borrows fs s.tables) (sym c.pop.ensures.below) counted);
      encoded = subst (λ (fs : List Frame). IsEncodedAtTop plan c.args.state.now.passing fs) (sym c.pop.ensures.below) (c.what_is_kept_stays.ensures.leaves plan c.args.state.now.passing s.stack runs.valid.stack);
    }
