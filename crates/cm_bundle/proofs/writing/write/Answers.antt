use Rattle.std.proofs.Common.{◌≡◌, ◌∙◌, ◌++◌, ℕ, List, ap, length, subst, arith}
use Rattle.std.proofs.lemmas.Result.{err_from_is_err_and}
use Rattle.cm_lemmas.proofs.Lists.{map_length}
use Rattle.cm_bundle.specs.declared.form.TheConstants.{BUNDLE_PREAMBLE}
use Rattle.cm_bundle.specs.Fronts.{front_spelled}
use Rattle.cm_bundle.specs.Refusals.{IsWrong}
use Rattle.cm_bundle.specs.Spelled.{Spaces, body_spelled, AreSupplied}
use Rattle.cm_bundle.specs.Trees.{BundleTree, group_tree, part_tree, bundle_tree}
use Rattle.cm_bundle.proofs.Refusing.{opening, is_refused, is_whole}
use Rattle.cm_bundle.proofs.writing.write.Goals as goal

pub returns-in_err-write_body-clause-refused : goal.returns-in_err-write_body-clause-refused
returns-in_err-write_body-clause-refused c =
    let r = c.from_residual-in_err-write_body in
    let p = err_from_is_err_and r.result r.ensures.1 in
    let b : BundleTree = bundle_tree c.args.bundle.now in
    let e = c.in_err-write_body.field-0.0 in
    let front = rw c.deref-2.ensures.value at c.in_ok-spaces.ensures in
    let before : List ℕ = c.write_front.new.out.items in
    let opens : before ≡ opening b = front.0 ∙ ap (λ (t : List ℕ). t ++ front_spelled b.front) (c.in_ok-extend_from_slice.ensures.items ∙ ap (λ (t : List ℕ). t ++ BUNDLE_PREAMBLE) c.in_ok-out.ensures.items) in
    rw (p.1, p.2) (is_refused e b before opens (subst (λ (s : Spaces). IsWrong e (length (before ++ body_spelled s b.parts b.exports)) (AreSupplied (length s.places) b.parts b.exports)) front.1 c.in_err-write_body.ensures))

pub returns-then-len-clause-refused : goal.returns-then-len-clause-refused
returns-then-len-clause-refused c =
    let b : BundleTree = bundle_tree c.args.bundle.now in
    let front = rw c.deref-2.ensures.value at c.in_ok-spaces.ensures in
    let customs = rw c.deref-3.ensures.value at c.in_ok-write_customs.ensures in
    let before : List ℕ = c.write_front.new.out.items in
    let opens : before ≡ opening b = front.0 ∙ ap (λ (t : List ℕ). t ++ front_spelled b.front) (c.in_ok-extend_from_slice.ensures.items ∙ ap (λ (t : List ℕ). t ++ BUNDLE_PREAMBLE) c.in_ok-out.ensures.items) in
    let body = subst (λ (s : Spaces). c.write_body.new.out.items ≡ before ++ body_spelled s b.parts b.exports) front.1 c.in_ok-write_body.ensures.0 in
    let whole = is_whole b before c.write_body.new.out.items c.write_customs.new.out.items opens body customs in
    omega (arith, c.if-len.true, c.len-2.ensures, ap length whole)

pub returns-clause-spelled : goal.returns-clause-spelled
returns-clause-spelled c =
    let b : BundleTree = bundle_tree c.args.bundle.now in
    let front = rw c.deref-2.ensures.value at c.in_ok-spaces.ensures in
    let customs = rw c.deref-3.ensures.value at c.in_ok-write_customs.ensures in
    let before : List ℕ = c.write_front.new.out.items in
    let opens : before ≡ opening b = front.0 ∙ ap (λ (t : List ℕ). t ++ front_spelled b.front) (c.in_ok-extend_from_slice.ensures.items ∙ ap (λ (t : List ℕ). t ++ BUNDLE_PREAMBLE) c.in_ok-out.ensures.items) in
    let body = subst (λ (s : Spaces). c.write_body.new.out.items ≡ before ++ body_spelled s b.parts b.exports) front.1 c.in_ok-write_body.ensures.0 in
    is_whole b before c.write_body.new.out.items c.write_customs.new.out.items opens body customs

pub returns-clause-bundle : goal.returns-clause-bundle
returns-clause-bundle c =
    let b : BundleTree = bundle_tree c.args.bundle.now in
    let front = rw c.deref-2.ensures.value at c.in_ok-spaces.ensures in
    let whole = returns-clause-spelled c in
    let parts = map_length part_tree c.args.bundle.now.parts.items in
    let groups = map_length group_tree c.args.bundle.now.front.items in
    record {
      few = omega (arith, c.if-len-gt-MAX_PARTS.false, c.len.ensures, parts);
      front = record { few = omega (arith, c.if-len-gt-MAX_PARTS-2.false, c.len-else-len-gt-MAX_PARTS.ensures, groups); each = front.2 };
      supplied = subst (λ (s : Spaces). AreSupplied (length s.places) b.parts b.exports) front.1 c.in_ok-write_body.ensures.1;
      short = omega (arith, c.if-len.false, c.len-2.ensures, ap length whole);
    }
