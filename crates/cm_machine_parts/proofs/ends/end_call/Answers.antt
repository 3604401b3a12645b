use Rattle.std.specs.Prelude.{slice_get}
use Rattle.std.proofs.Common.{◌≡◌, ℕ, ◌-◌, ◌<◌, ◌≤◌, Some, List, length, take, drop, sym, ap, subst, ◌∙◌, arith}
use Rattle.cm_handles.specs.Borrows.{borrows_of}
use Rattle.cm_handles.specs.Handles.{Handles}
use Rattle.cm_machine_model.specs.declared.frame.Frame.{Frame}
use Rattle.cm_machine_model.specs.declared.frame.Lend.{Lend}
use Rattle.cm_machine_model.specs.Stack.{below_top}
use Rattle.cm_machine_model.specs.State.{State, lends_after_call, table_at, tables_after_call}
use Rattle.cm_machine_parts.specs.Kept.{AreBorrowsCounted}
use Rattle.cm_machine_parts.specs.Lends.{AreLentAtLeast, NoneAbove, tables_after_unlends}
use Rattle.cm_machine_parts.specs.States.{handles_in, state_of}
use Rattle.cm_machine_parts.proofs.Ending.{counted_below, top_below}
use Rattle.cm_machine_parts.proofs.LendLists.{behind_all, behind_lent, lends_stay, tables_unlent, unlends_keep}
use Rattle.cm_machine_parts.proofs.ends.end_call.Goals as goal

pub first_to-first-requires : goal.first_to-first-requires
first_to-first-requires c =
    let s : State = state_of c.args.state.now in
    let at : length (below_top s.stack) ≡ c.len.result - 1 = omega (arith, c.len.ensures.len, top_below s.stack) in
    subst (λ n. NoneAbove n s.lends) at c.requires.above

pub unlend_all-requires : goal.unlend_all-requires
unlend_all-requires c =
    let s : State = state_of c.args.state.now in
    let n = c.first_to-first.result in
    let is : take (length c.as_slice.result.now - n) (drop n c.as_slice.result.now) ≡ drop n s.lends = behind_all c.as_slice.result.now n ∙ ap (λ (ls : List Lend). drop n ls) c.as_slice.ensures in
    subst (λ (ls : List Lend). AreLentAtLeast ls s.tables) (sym is) (behind_lent s.lends s.tables n c.requires.lent)

pub returns-clause-ended : goal.returns-clause-ended
returns-clause-ended c =
    let s : State = state_of c.args.state.now in
    let n = c.first_to-first.result in
    let place : ℕ = length (below_top s.stack) in
    let at : c.len.result - 1 ≡ place = omega (arith, c.len.ensures.len, top_below s.stack) in
    let before = subst (λ p. (k : ℕ) (l : Lend) → k < n → slice_get s.lends k ≡ Some l → l.frame < p) at c.first_to-first.ensures.before in
    let behind = subst (λ p. (k : ℕ) (l : Lend) → n ≤ k → slice_get s.lends k ≡ Some l → l.frame ≡ p) at c.first_to-first.ensures.behind in
    let is : take (length c.as_slice.result.now - n) (drop n c.as_slice.result.now) ≡ drop n s.lends = behind_all c.as_slice.result.now n ∙ ap (λ (ls : List Lend). drop n ls) c.as_slice.ensures in
    let tables : handles_in c.unlend_all.new.tables.items ≡ tables_after_call place s.lends s.tables = c.unlend_all.ensures ∙ (ap (λ (ls : List Lend). tables_after_unlends ls s.tables) is ∙ sym (tables_unlent s.lends n place s.tables before behind)) in
    let lends : c.truncate.new.self ≡ lends_after_call place s.lends = c.truncate.ensures ∙ sym (lends_stay s.lends n place before behind) in
    let stack : c.pop.new.self.frames ≡ below_top s.stack = c.pop.ensures.below in
    cc

pub returns-clause-counted : goal.returns-clause-counted
returns-clause-counted c counted =
    let s : State = state_of c.args.state.now in
    let n = c.first_to-first.result in
    let passed : List Lend = take (length c.as_slice.result.now - n) (drop n c.as_slice.result.now) in
    let same : (call i : ℕ) → borrows_of call (table_at (handles_in c.unlend_all.new.tables.items) i) ≡ borrows_of call (table_at s.tables i) = λ call i. ap (λ (ts : List Handles). borrows_of call (table_at ts i)) c.unlend_all.ensures ∙ unlends_keep c.borrows_are_counted.ensures.unlend passed s.tables call i in
    let below : AreBorrowsCounted c.args.state.now.stack.borrows (below_top s.stack) (handles_in c.unlend_all.new.tables.items) = counted_below c.args.state.now.stack.borrows s.stack s.tables (handles_in c.unlend_all.new.tables.items) counted same in
    subst (λ (bs : List ℕ). AreBorrowsCounted bs c.pop.new.self.frames (handles_in c.unlend_all.new.tables.items)) (sym c.pop.ensures.borrows) (subst (λ (fs : List Frame). AreBorrowsCounted c.args.state.now.stack.borrows fs (handles_in c.unlend_all.new.tables.items)) (sym c.pop.ensures.below) below)
