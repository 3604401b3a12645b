-- What reading a bundle answers, want of memory aside.
use Rattle.std.specs.Prelude.{◌≡◌, ◌⊎◌, ℕ, ◌+◌, List, length, Result, Ok, Err, MatchResult}
use Rattle.cm_binary_grammar.specs.declared.fault.Fault.{Fault}
use Rattle.cm_binary_grammar.specs.Faults.{flaw}
use Rattle.cm_bundle.specs.declared.form.Bundle.{Bundle}
use Rattle.cm_bundle.specs.declared.fault.BundleFault.{BundleFault}
use Rattle.cm_bundle.specs.declared.fault.BundleReason.{BundleReason}
use Rattle.cm_bundle.specs.declared.fault.BundleReason.TheVariants.{Memory}
use Rattle.cm_bundle.specs.Trees.{BundleTree, bundle_tree}

-- The answer is this bundle, or that memory was refused.
abbrev pub Accepts : Result Bundle BundleFault → BundleTree → Type 0
Accepts answer b = MatchResult answer (λ v. bundle_tree v ≡ b) (λ f. f.reason ≡ Memory)

-- The answer is a fault of this reason at this place, or that memory was refused.
abbrev pub Refuses : Result Bundle BundleFault → ℕ → BundleReason → Type 0
Refuses answer at reason =
    MatchResult answer (λ v. ⊥) (λ f. (f.reason ≡ Memory) ⊎ ((f.at ≡ at) × (f.reason ≡ reason)))

-- The answer is what reading gives, with the place of a fault counted from the front.
abbrev pub Answers : List ℕ → Result Bundle BundleFault → Result BundleTree (Fault BundleReason)
    → Type 0
Answers bytes (Ok b) read = read ≡ Ok (bundle_tree b)
Answers bytes (Err f) read = (f.reason ≡ Memory)
    ⊎ ((left : ℕ) × (f.at + left ≡ length bytes) × (read ≡ Err (flaw left f.reason)))
