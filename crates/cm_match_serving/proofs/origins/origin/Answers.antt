use Rattle.std.proofs.Common.{◌≡◌, ◌∙◌, true, Some, refl, sym, ap, arith, is_some, option_and_then}
use Rattle.cm_match_model.specs.Origins.{definition_of}
use Rattle.cm_match_serving.proofs.Following.{absent, earlier, exists_told, first, follow, served_by, served_told, stay}
use Rattle.cm_match_serving.proofs.origins.origin.Goals as goal

pub loop-step-init : goal.loop-step-init
loop-step-init g c = λ set links table d early a.
    (refl, sym (exists_told (g.C.Components.told c.args.components.now) set links d c.args.resource) ∙ sym c.if-not-exists.ensures, omega arith)

pub returns-in_default : goal.returns-in_default
returns-in_default g c = λ set links table d early a.
    let kept = c.loop-step.invariant set links table d early a in
    let next : served_by set links c.loop-step.origin ≡ Some c.in-Some.next = sym (served_told (g.C.Components.told c.args.components.now) set links d c.loop-step.origin) ∙ sym c.served.ensures ∙ c.in-Some.is in
    let gone = sym (exists_told (g.C.Components.told c.args.components.now) set links d c.in-Some.next) ∙ sym c.if-exists.ensures in
    sym (kept.0 ∙ stay set links table a c.loop-step.origin (ap (option_and_then table) next ∙ absent set links table a c.in-Some.next gone) kept.1)

pub returns-in_default-2 : goal.returns-in_default-2
returns-in_default-2 g c = λ set links table d early a.
    let kept = c.loop-step.invariant set links table d early a in
    let none = sym (served_told (g.C.Components.told c.args.components.now) set links d c.loop-step.origin) ∙ sym c.served.ensures ∙ c.in_default.is in
    sym (kept.0 ∙ stay set links table a c.loop-step.origin (ap (option_and_then table) none) kept.1)

pub loop-step-preserved : goal.loop-step-preserved
loop-step-preserved g c = λ set links table d early a.
    let kept = c.loop-step.invariant set links table d early a in
    let next : served_by set links c.loop-step.origin ≡ Some c.in-Some.next = sym (served_told (g.C.Components.told c.args.components.now) set links d c.loop-step.origin) ∙ sym c.served.ensures ∙ c.in-Some.is in
    let there : is_some (definition_of set c.in-Some.next) ≡ true = sym (exists_told (g.C.Components.told c.args.components.now) set links d c.in-Some.next) ∙ sym c.if-exists.ensures in
    (kept.0 ∙ follow set links table a c.loop-step.origin c.in-Some.next next there, there, omega (arith, kept.2, earlier set links early c.loop-step.origin c.in-Some.next next))

pub returns : goal.returns
returns g c = λ set links table d early a.
    let kept = c.loop-step.invariant set links table d early a in
    let first_one : c.loop-step.origin.component ≡ 0 = omega (arith, kept.2, c.loop-step-test.false) in
    sym (kept.0 ∙ stay set links table a c.loop-step.origin (ap (option_and_then table) (first set links early c.loop-step.origin first_one)) kept.1)
