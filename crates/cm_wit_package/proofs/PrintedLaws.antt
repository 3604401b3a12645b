-- What a printed package is read as.
use Rattle.std.proofs.Common.{◌≡◌, ℕ, List, None, Result, Ok, Err, inl, inr, sym, ◌∙◌, subst}
use Rattle.std.specs.Prelude.{MatchResult}
use Rattle.std.proofs.Math.Logic.{∥∥₁_elim, ∥∥₁_prop}
use Rattle.cm_wit_tokens.specs.declared.fault.WitFault.{WitFault}
use Rattle.cm_wit_tokens.specs.Whole.{IsMemory, text_reads}
use Rattle.cm_wit_names.specs.FileMentions.{mentions}
use Rattle.cm_wit_names.specs.Rules.{IsFirstFault}
use Rattle.cm_wit_package.specs.Printed.{file_text}
use Rattle.cm_wit_reading.specs.Files.{file}
use Rattle.cm_wit_reading.specs.Trees.{File}
use Rattle.cm_wit_package.specs.declared.package.Package.{Package}
use Rattle.cm_wit_package.specs.PackageViews.{package_tree}
use Rattle.cm_wit_package.specs.Texts.{IsPackage, IsWritten}
use Rattle.cm_wit_package.specs.Packages.{IsNameFault, IsRefused, IsParsed}

abbrev ok_of : File → Result File WitFault
ok_of f = Ok f

same_file : (f g : File) → ok_of f ≡ ok_of g → f ≡ g
same_file f g e = cc

no_fault : (r : Result File WitFault) (f : File) (e : WitFault) → r ≡ Ok f → r ≡ Err e → ⊥
no_fault r f e p q = absurd cc

no_name_fault : (text : List ℕ) (p : File) (e : WitFault) → IsPackage text p → IsNameFault text e → ⊥
no_name_fault text p e h n =
    let whole = subst (λ (f : File). IsFirstFault (mentions f) None) (same_file p n.0 (sym h.0 ∙ n.2)) h.1 in
    whole n.1 e.reason n.3.0

refused_is : (text : List ℕ) (p : File) (e : WitFault) → IsPackage text p → IsRefused text e → IsMemory e
refused_is text p e h r = elim r [
  | inl m ↦ m
  | inr q ↦ elim q [ inl f ↦ absurd (no_fault (text_reads file text) p e h.0 f) | inr n ↦ absurd (no_name_fault text p e h n) ]
]

pub parsed_is : (text : List ℕ) (p : File) (result : Result Package WitFault) → IsPackage text p → IsParsed text result → MatchResult result (λ read. package_tree read ≡ p) IsMemory
parsed_is text p (Ok q) h r = same_file (package_tree q) p (sym r.0 ∙ h.0)
parsed_is text p (Err e) h r = refused_is text p e h r

-- a package that some text is, is what its printed text is
pub printed_is : (f : File) → ((text : List ℕ) → IsPackage text f → IsPackage (file_text f) f) → ∥ IsWritten f ∥₁ → (bytes : List ℕ) → bytes ≡ file_text f → ∥ IsPackage bytes f ∥₁
printed_is f h w bytes e = subst (λ (t : List ℕ). ∥ IsPackage t f ∥₁) (sym e) (∥∥₁_elim w ∥∥₁_prop (λ p. ∣ h p.0 p.1 ∣₁))
