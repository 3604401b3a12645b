use Rattle.std.proofs.Common.{◌≡◌, inl, inr, refl, sym, subst, ap, ℕ, List, length, map, arith}
use Rattle.std.proofs.lemmas.List.{length-map}
use Rattle.cm_types.specs.CoreValues.{kind_of}
use Rattle.cm_types.specs.declared.core_value.CoreKind.{CoreKind}
use Rattle.cm_abi_model.specs.Views.{results}
use Rattle.cm_machine_model.specs.declared.frame.Phase.TheVariants as phase
use Rattle.cm_machine_model.specs.Plan.{types_of}
use Rattle.cm_machine_model.specs.State.{table_at}
use Rattle.cm_machine_model.specs.Step.{AreOf, HasNoBorrows, ReturnsIn, ReturnsResult, top_place}
use Rattle.cm_machine_parts.specs.States.{state_of}
use Rattle.cm_machine_calls.proofs.Results.{not_true}
use Rattle.cm_machine_calls.proofs.Standing.{top_call}
use Rattle.cm_machine_calls.proofs.exit.return_body.Goals as goal
use Rattle.cm_abi_model.proofs.ReceivesLaws.{few_kinds}
use Rattle.cm_machine_parts.proofs.RowsLaws.{meets_by}
use Rattle.cm_machine_model.proofs.StackLaws.{some_stand}

pub returns-then-not-are_of-clause-row : goal.returns-then-not-are_of-clause-row
returns-then-not-are_of-clause-row c = λ plan l y.
    inl ((λ are. not_true c.are_of.result c.if-not-are_of.true (c.are_of.ensures.1 (subst (λ (ks : List CoreKind). AreOf ks c.args.given.now) (sym (c.kinds_of.ensures l y.link_is)) are))), (refl, refl))

pub has_borrows-requires : goal.has_borrows-requires
has_borrows-requires c =
    let y = c.requires.returned.2 in
    some_stand c.args.state.now.stack.frames y.top y.on_top

pub returns-then-has_borrows-clause-row : goal.returns-then-has_borrows-clause-row
returns-then-has_borrows-clause-row c = λ plan l y.
    let s = c.args.state.now in
    let are = subst (λ (ks : List CoreKind). AreOf ks c.args.given.now) (c.kinds_of.ensures l y.link_is) (c.are_of.ensures.0 (cc)) in
    let top = top_call plan l c.args.call.now s.stack.frames y.top y.runs.valid.stack y.on_top y.is_call y.reaches in
    inr (
      are,
      inl (
        (λ none. cc (
          c.if-has_borrows.true,
          (c.has_borrows.ensures y.top y.on_top y.runs.kept.counted).1
              (subst (λ (n : ℕ). HasNoBorrows (table_at (state_of s).tables n) (top_place (state_of s))) (sym top.instance) none),
        )),
        (refl, refl),
      ),
    )

pub pass_result-requires-clause-few : goal.pass_result-requires-clause-few
pass_result-requires-clause-few c =
    let x = c.requires.returned in
    let are : map kind_of c.args.given.now ≡ c.kinds_of.result.now = c.are_of.ensures.0 (cc) in
    omega (arith, length-map c.args.given.now kind_of, ap (λ (ks : List CoreKind). length ks) are, ap (λ (ks : List CoreKind). length ks) (c.kinds_of.ensures x.1 x.2.link_is), few_kinds results (types_of x.1 results))

pub returns-in-None-clause-row : goal.returns-in-None-clause-row
returns-in-None-clause-row c = λ plan l y.
    let s = c.args.state.now in
    let are = subst (λ (ks : List CoreKind). AreOf ks c.args.given.now) (c.kinds_of.ensures l y.link_is) (c.are_of.ensures.0 (cc)) in
    let top = top_call plan l c.args.call.now s.stack.frames y.top y.runs.valid.stack y.on_top y.is_call y.reaches in
    let none = subst (λ (n : ℕ). HasNoBorrows (table_at (state_of s).tables n) (top_place (state_of s))) top.instance ((c.has_borrows.ensures y.top y.on_top y.runs.kept.counted).0 c.if-has_borrows.false) in
    meets_by (ReturnsResult (state_of s) l c.args.call.now c.args.given.now) (ReturnsIn phase.Body (state_of s) l c.args.call.now c.args.given.now) c.pass_result.result c.pass_result.new.values
    (state_of c.pass_result.new.state) (λ e st x. inr (are, inr (none, x))) (c.pass_result.ensures.row plan l y)

pub returns-in-Some-clause-row : goal.returns-in-Some-clause-row
returns-in-Some-clause-row c = λ plan l y.
    let s = c.args.state.now in
    let are = subst (λ (ks : List CoreKind). AreOf ks c.args.given.now) (c.kinds_of.ensures l y.link_is) (c.are_of.ensures.0 (cc)) in
    let top = top_call plan l c.args.call.now s.stack.frames y.top y.runs.valid.stack y.on_top y.is_call y.reaches in
    let none = subst (λ (n : ℕ). HasNoBorrows (table_at (state_of s).tables n) (top_place (state_of s))) top.instance ((c.has_borrows.ensures y.top y.on_top y.runs.kept.counted).0 c.if-has_borrows.false) in
    meets_by (ReturnsResult (state_of s) l c.args.call.now c.args.given.now) (ReturnsIn phase.Body (state_of s) l c.args.call.now c.args.given.now) c.exit_with_numbers.result c.exit_with_numbers.new.values
    (state_of c.exit_with_numbers.new.state) (λ e st x. inr (are, inr (none, x))) (c.exit_with_numbers.ensures.row plan l y)

pub exit_with_numbers-requires-clause-kinds : goal.exit_with_numbers-requires-clause-kinds
exit_with_numbers-requires-clause-kinds c = λ l is. subst (λ (ks : List CoreKind). AreOf ks c.args.given.now) (c.kinds_of.ensures l is) (c.are_of.ensures.0 (cc))
