use Rattle.std.proofs.Common.{◌≡◌, ◌∙◌, ◌++◌, List, length, take, drop, true, ap, sym, subst}
use Rattle.cm_types.specs.declared.core_value.CoreKind.{CoreKind}
use Rattle.cm_types.specs.declared.core_value.CoreValue.{CoreValue}
use Rattle.cm_abi_model.specs.Numbers.{slot_at}
use Rattle.cm_abi_model.specs.Requests.{is_spilled}
use Rattle.cm_abi_model.specs.Views.{results}
use Rattle.cm_machine_model.specs.Plan.{types_of}
use Rattle.cm_machine_model.specs.Step.{AreOf, one_i32}
use Rattle.cm_machine_parts.specs.declared.link.CallTypes.{CallTypes}
use Rattle.cm_machine_calls.proofs.ArgumentLaws.{front_fails, no_pointer, place_by, pointer_is, pointer_kinds, with_pointer}
use Rattle.cm_machine_calls.proofs.Results.{not_true}
use Rattle.cm_machine_calls.proofs.arguments.split_arguments.Goals as goal

pub returns-then-not-are_of-clause-none : goal.returns-then-not-are_of-clause-none
returns-then-not-are_of-clause-none c = λ l is are.
    let kinds = c.kinds_of-kinds.result.now in
    let more = pointer_kinds (is_spilled results (types_of l results)) in
    front_fails c.args.args.now kinds more
    (λ front. not_true c.are_of.result c.if-not-are_of.true (c.are_of.ensures.1 (subst (λ (xs : List CoreValue). AreOf kinds xs) (sym c.split_at.ensures.front) front)))
    (are ∙ ap (λ (ks : List CoreKind). ks ++ more) (sym (c.kinds_of-kinds.ensures l is)))

pub returns-in-None-clause-none : goal.returns-in-None-clause-none
returns-in-None-clause-none c = λ l is are.
    let kinds = c.kinds_of-kinds.result.now in
    let spilled = is_spilled results (types_of l results) in
    no_pointer c.args.args.now kinds spilled (sym is.pointer_is ∙ ap (λ (t : CallTypes). t.has_pointer) (sym c.deref.ensures) ∙ c.if-deref.true)
    (λ one. c.in-None.ensures (subst (λ (xs : List CoreValue). AreOf one_i32 xs) (sym c.split_at.ensures.back) one))
    (are ∙ ap (λ (ks : List CoreKind). ks ++ pointer_kinds spilled) (sym (c.kinds_of-kinds.ensures l is)))

pub returns-in-Some-clause-some : goal.returns-in-Some-clause-some
returns-in-Some-clause-some c = λ l is.
    let args = c.args.args.now in
    let kinds = c.kinds_of-kinds.result.now in
    let same = c.kinds_of-kinds.ensures l is in
    let b = is_spilled results (types_of l results) in
    let spilled : b ≡ true = sym is.pointer_is ∙ ap (λ (t : CallTypes). t.has_pointer) (sym c.deref.ensures) ∙ c.if-deref.true in
    let front : AreOf kinds (take (length kinds) args) = subst (λ (xs : List CoreValue). AreOf kinds xs) c.split_at.ensures.front (c.are_of.ensures.0 (cc)) in
    let one : AreOf one_i32 (drop (length kinds) args) = subst (λ (xs : List CoreValue). AreOf one_i32 xs) c.split_at.ensures.back c.in-Some.ensures.0 in
    let place : c.in-Some.result_at ≡ slot_at (drop (length kinds) args) 0 = subst (λ (xs : List CoreValue). c.in-Some.result_at ≡ slot_at xs 0) c.split_at.ensures.back c.in-Some.ensures.1 in (
      with_pointer args kinds b spilled front one ∙ ap (λ (ks : List CoreKind). ks ++ pointer_kinds b) same,
      c.split_at.ensures.front ∙ ap (λ (ks : List CoreKind). take (length ks) args) same,
      pointer_is args (length kinds) c.in-Some.result_at b spilled place ∙ ap (λ (ks : List CoreKind). place_by b args (length ks)) same,
    )
