-- The answer of reading a bundle, in the words of the grammar and of the spelling.
use Rattle.std.proofs.Common.{◌≡◌, ℕ, ◌+◌, ◌<◌, ◌^◌, List, length, Result, Ok, Err, sym, ap, subst, ◌∙◌, arith, inl, inr, ◌⊎◌}
use Rattle.std.specs.Prelude.{IfOk, IfErr}
use Rattle.cm_binary_grammar.specs.declared.fault.Fault.{Fault}
use Rattle.cm_binary_grammar.specs.declared.fault.End.TheVariants as end
use Rattle.cm_binary_grammar.specs.Faults.{flaw}
use Rattle.cm_lemmas.proofs.Lists.{IsBytes}
use Rattle.cm_lemmas.proofs.Equations.{err_is, ok_is}
use Rattle.cm_bundle.specs.declared.form.Bundle.{Bundle}
use Rattle.cm_bundle.specs.declared.fault.BundleFault.{BundleFault}
use Rattle.cm_bundle.specs.declared.fault.BundleReason.{BundleReason}
use Rattle.cm_bundle.specs.declared.fault.BundleReason.TheVariants.{Truncated, Memory}
use Rattle.cm_bundle.specs.Trees.{BundleTree, bundle_tree}
use Rattle.cm_bundle.specs.Bundles.{FirstFault, IsBundle, bundle, spelled}
use Rattle.cm_bundle.specs.Answers.{Accepts, Refuses, Answers}
use Rattle.cm_bundle.proofs.FrontLaws.{bundle_lawful}
use Rattle.cm_bundle.proofs.BundleIs.{bundle_is}
use Rattle.cm_bundle.proofs.FrontWritten.{bundle_written}

pub is_bundle : (bytes : List ℕ) (r : Result Bundle BundleFault) → IsBytes bytes → length bytes < 2 ^ 32 → Answers bytes r (bundle.reads (end.Cut Truncated) bytes) → IfOk r (λ b. IsBundle (bundle_tree b))
is_bundle bytes (Ok b) fits lt h = (bundle_is (bundle_tree b) bytes lt (bundle_lawful.takes (end.Cut Truncated) bytes (bundle_tree b) fits h)).0
is_bundle bytes (Err f) fits lt h = tt {0}

pub is_spelled : (bytes : List ℕ) (r : Result Bundle BundleFault) → IsBytes bytes → length bytes < 2 ^ 32 → Answers bytes r (bundle.reads (end.Cut Truncated) bytes) → IfOk r (λ b. bytes ≡ spelled (bundle_tree b))
is_spelled bytes (Ok b) fits lt h = (bundle_is (bundle_tree b) bytes lt (bundle_lawful.takes (end.Cut Truncated) bytes (bundle_tree b) fits h)).1
is_spelled bytes (Err f) fits lt h = tt {0}

read_again : (bytes : List ℕ) (b : BundleTree) → IsBundle b → bytes ≡ spelled b → bundle.reads (end.Cut Truncated) bytes ≡ Ok b
read_again bytes b h e = bundle_lawful.again (end.Cut Truncated) b bytes (subst (λ (t : List ℕ). bundle.Spells b t) (sym e) (bundle_written b h))

pub is_only : (bytes : List ℕ) (r : Result Bundle BundleFault) → Answers bytes r (bundle.reads (end.Cut Truncated) bytes) → (b : BundleTree) → IsBundle b → bytes ≡ spelled b → Accepts r b
is_only bytes (Ok v) h b i e = ok_is (Fault BundleReason) (bundle_tree v) b (sym h ∙ read_again bytes b i e)
is_only bytes (Err f) (inl m) b i e = m
is_only bytes (Err f) (inr h) b i e = let q = h.2 in let p = read_again bytes b i e in absurd cc

pub is_fault : (bytes : List ℕ) (r : Result Bundle BundleFault) → IsBytes bytes → length bytes < 2 ^ 32 → Answers bytes r (bundle.reads (end.Cut Truncated) bytes) → IfErr r (λ f. (f.reason ≡ Memory) ⊎ FirstFault bytes f.at f.reason)
is_fault bytes (Ok b) fits lt h = tt {0}
is_fault bytes (Err f) fits lt (inl m) = inl m
is_fault bytes (Err f) fits lt (inr h) = inr (inr (lt, (h.0, h.1, bundle_lawful.faulty (end.Cut Truncated) bytes (flaw h.0 f.reason) fits h.2)))

same_place : (at left at' left' n : ℕ) (reason reason' : BundleReason) → at + left ≡ n → at' + left' ≡ n → flaw left reason ≡ flaw left' reason' → (at ≡ at') × (reason ≡ reason')
same_place at left at' left' n reason reason' p q e =
    let lefts : left ≡ left' = ap (λ (f : Fault BundleReason). f.left) e in
    (omega arith, ap (λ (f : Fault BundleReason). f.reason) e)

first_inside : (bytes : List ℕ) (r : Result Bundle BundleFault) → Answers bytes r (bundle.reads (end.Cut Truncated) bytes) → (at left : ℕ) (reason : BundleReason) → at + left ≡ length bytes → bundle.Faulty (end.Cut Truncated) bytes (flaw left reason) → Refuses r at reason
first_inside bytes (Ok b) h at left reason e f = let p = bundle_lawful.faulty_again (end.Cut Truncated) bytes (flaw left reason) f in absurd cc
first_inside bytes (Err d) (inl m) at left reason e f = inl m
first_inside bytes (Err d) (inr h) at left reason e f =
    let p = err_is BundleTree (flaw h.0 d.reason) (flaw left reason) (sym h.2 ∙ bundle_lawful.faulty_again (end.Cut Truncated) bytes (flaw left reason) f) in
    inr (same_place d.at h.0 at left (length bytes) d.reason reason h.1 e p)

pub is_first : (bytes : List ℕ) (r : Result Bundle BundleFault) → length bytes < 2 ^ 32 → Answers bytes r (bundle.reads (end.Cut Truncated) bytes) → (at : ℕ) (reason : BundleReason) → FirstFault bytes at reason → Refuses r at reason
is_first bytes r lt h at reason (inl f) = absurd (omega (arith, f.0, lt))
is_first bytes r lt h at reason (inr f) = first_inside bytes r h at f.1.0 reason f.1.1 f.1.2
