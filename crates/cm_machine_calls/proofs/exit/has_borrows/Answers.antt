use Rattle.std.proofs.Common.{◌≡◌, ◌∙◌, Some, ap, sym, subst, List, length, arith}
use Rattle.std.proofs.lemmas.Bool.{le-ltb, ltb-false}
use Rattle.std.specs.Prelude.{slice_index}
use Rattle.cm_handles.specs.Borrows.{borrows_of}
use Rattle.cm_machine_model.specs.declared.frame.Frame.{Frame}
use Rattle.cm_machine_model.specs.Stack.{below_top}
use Rattle.cm_machine_model.specs.State.{table_at}
use Rattle.cm_machine_model.specs.Valid.{frame_at}
use Rattle.cm_machine_parts.specs.States.{state_of}
use Rattle.cm_machine_calls.proofs.Borrows.{frame_top}
use Rattle.cm_machine_calls.proofs.Standing.{top_high, top_parts}
use Rattle.cm_machine_calls.proofs.exit.has_borrows.Goals as goal

pub returns : goal.returns
returns c = λ top on_top counted.
    let s = c.args.state.now in
    let fs = s.stack.frames in
    let place = length (below_top fs) in
    let t = table_at (state_of s).tables top.instance in
    let at : frame_at fs place ≡ Some top = subst (λ (xs : List Frame). frame_at xs place ≡ Some top) (sym (top_parts fs top on_top)) (frame_top top (below_top fs)) in
    let here : c.borrows.result ≡ borrows_of place t =
    c.borrows.ensures ∙ ap (slice_index s.stack.borrows) (omega (arith, c.len.ensures.len, top_high fs top on_top)) ∙ counted place top at in
    let none = c.borrows_are_counted.ensures.none t place in (
      (λ zero. none.0 (sym here ∙ omega (arith, ltb-false 0 c.borrows.result zero))),
      (λ gone. le-ltb 0 c.borrows.result (omega (arith, here, none.1 gone))),
    )
