-- The answer of reading a file, in the words of the grammar.
use Rattle.std.proofs.Common.{◌≡◌, ℕ, ◌+◌, List, length, Result, Ok, Err, sym, ap, refl, ◌∙◌, arith, inl, inr, ◌⊎◌}
use Rattle.cm_binary_grammar.specs.declared.fault.Fault.{Fault}
use Rattle.cm_binary_grammar.specs.declared.fault.End.TheVariants as end
use Rattle.cm_binary_grammar.specs.Faults.{flaw}
use Rattle.cm_binary_forms.specs.declared.fault.DecodeFault.{DecodeFault}
use Rattle.cm_binary_forms.specs.declared.fault.DecodeReason.{DecodeReason}
use Rattle.cm_binary_forms.specs.declared.fault.DecodeReason.TheVariants.{Truncated}
use Rattle.cm_shims_plain.specs.File.{wide_file}
use Rattle.cm_shims_plain.specs.Trees.{WideSectionTree}
use Rattle.cm_shims_plain.proofs.LawfulFile.{wide_file_lawful}
use Rattle.cm_shims_plain.specs.declared.fault.ShimFault.{ShimFault}
use Rattle.cm_shims_plain.specs.declared.fault.ShimFault.TheVariants as faults
use Rattle.cm_shims_plain.specs.declared.reading.Shimmed.{Shimmed}
use Rattle.cm_shims_plain.specs.Reading.{ComesTo, IsMemory, IsReadAs, Outcome, component_of, outcome}
use Rattle.cm_lemmas.proofs.Lists.{IsBytes}
use Rattle.cm_lemmas.proofs.Equations.{err_is, ok_is}

abbrev Read : Type 0
Read = Result (List WideSectionTree) (Fault DecodeReason)

right_of : (bytes : List ℕ) (r : Result Shimmed ShimFault) (read : Read) → IsBytes bytes → wide_file.reads (end.Cut Truncated) bytes ≡ read → ComesTo bytes r read → IsMemory r ⊎ IsReadAs bytes (outcome r)
right_of bytes r (Ok file) fits h (inl m) = inl m
right_of bytes r (Ok file) fits h (inr c) = inr (inl (file, wide_file_lawful.takes (end.Cut Truncated) bytes file fits h, c))
right_of bytes r (Err f) fits h (inl m) = inl m
right_of bytes r (Err f) fits h (inr c) = inr (inr (record { at = c.0; reason = f.reason }, (f.left, c.1, wide_file_lawful.faulty (end.Cut Truncated) bytes f fits h), c.2))

pub is_right : (bytes : List ℕ) (r : Result Shimmed ShimFault) → IsBytes bytes → ComesTo bytes r (wide_file.reads (end.Cut Truncated) bytes) → IsMemory r ⊎ IsReadAs bytes (outcome r)
is_right bytes r fits c = right_of bytes r (wide_file.reads (end.Cut Truncated) bytes) fits refl c

only_file : (bytes : List ℕ) (r : Result Shimmed ShimFault) (read : Read) (file : List WideSectionTree) (answer : Outcome) → read ≡ Ok file → answer ≡ component_of file → ComesTo bytes r read → IsMemory r ⊎ (outcome r ≡ answer)
only_file bytes r (Ok x) file answer h e (inl m) = inl m
only_file bytes r (Ok x) file answer h e (inr c) = inr (c ∙ (ap component_of (ok_is (Fault DecodeReason) x file h) ∙ sym e))
only_file bytes r (Err f) file answer h e c = absurd cc

same_fault : (n at at' left : ℕ) → at + left ≡ n → at' + left ≡ n → at ≡ at'
same_fault n at at' left p q = omega arith

only_fault : (bytes : List ℕ) (r : Result Shimmed ShimFault) (read : Read) (f : DecodeFault) (left : ℕ) (answer : Outcome) → read ≡ Err (flaw left f.reason) → f.at + left ≡ length bytes → answer ≡ Err (faults.Decode f) → ComesTo bytes r read → IsMemory r ⊎ (outcome r ≡ answer)
only_fault bytes r (Ok x) f left answer h p e c = absurd cc
only_fault bytes r (Err g) f left answer h p e (inl m) = inl m
only_fault bytes r (Err g) f left answer h p e (inr c) =
    let same : g ≡ flaw left f.reason = err_is (List WideSectionTree) g (flaw left f.reason) h in
    let lefts : g.left ≡ left = ap (λ (x : Fault DecodeReason). x.left) same in
    let reasons : g.reason ≡ f.reason = ap (λ (x : Fault DecodeReason). x.reason) same in
    let places : c.0 ≡ f.at = omega (arith, c.1, p, lefts) in
    inr (c.2 ∙ (rw (places, reasons) refl ∙ sym e))

pub is_only : (bytes : List ℕ) (r : Result Shimmed ShimFault) → ComesTo bytes r (wide_file.reads (end.Cut Truncated) bytes) → (answer : Outcome) → IsReadAs bytes answer → IsMemory r ⊎ (outcome r ≡ answer)
is_only bytes r c answer (inl a) = only_file bytes r _ a.0 answer (wide_file_lawful.again (end.Cut Truncated) a.0 bytes a.1) a.2 c
is_only bytes r c answer (inr a) = only_fault bytes r _ a.0 a.1.0 answer (wide_file_lawful.faulty_again (end.Cut Truncated) bytes (flaw a.1.0 a.0.reason) a.1.2) a.1.1 a.2 c
