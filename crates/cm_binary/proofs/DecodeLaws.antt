-- The answer of reading a file, in the words of the grammar.
use Rattle.std.proofs.Common.{◌≡◌, ℕ, ◌+◌, List, ◌++◌, length, Result, Ok, Err, sym, ap, ◌∙◌, arith, inl, inr, ◌⊎◌}
use Rattle.std.specs.Prelude.{IfOk, IfErr}
use Rattle.std.proofs.lemmas.Bool.{cases_lt}
use Rattle.std.proofs.lemmas.List.{length-append, get_or_append_left, get_or_past}
use Rattle.cm_binary_grammar.specs.declared.fault.Fault.{Fault}
use Rattle.cm_binary_grammar.specs.declared.fault.End.TheVariants as end
use Rattle.cm_binary_grammar.specs.Faults.{flaw}
use Rattle.cm_binary_model.specs.Trees.{SectionTree}
use Rattle.cm_binary_forms.specs.declared.fault.DecodeFault.{DecodeFault}
use Rattle.cm_binary_forms.specs.declared.fault.DecodeReason.{DecodeReason}
use Rattle.cm_binary_forms.specs.declared.fault.DecodeReason.TheVariants.{Truncated, Memory}
use Rattle.cm_binary_forms.specs.File.{file, Spells, FirstFault}
use Rattle.cm_binary.specs.Answers.{Accepts, Refuses, Answers}
use Rattle.cm_binary_forms.proofs.LawfulFile.{file_lawful}
use Rattle.cm_lemmas.proofs.Lists.{IsBytes}
use Rattle.cm_lemmas.proofs.Equations.{err_is, ok_is}

pub is_found : (bytes : List ℕ) (r : Result (List SectionTree) DecodeFault) → IsBytes bytes → Answers bytes r (file.reads (end.Cut Truncated) bytes) → IfOk r (λ c. Spells c bytes)
is_found bytes (Ok c) fits h = file_lawful.takes (end.Cut Truncated) bytes c fits h
is_found bytes (Err f) fits h = tt {0}

pub is_only : (bytes : List ℕ) (r : Result (List SectionTree) DecodeFault) → Answers bytes r (file.reads (end.Cut Truncated) bytes) → (c : List SectionTree) → Spells c bytes → Accepts r c
is_only bytes (Ok v) h c s = ok_is (Fault DecodeReason) v c (sym h ∙ file_lawful.again (end.Cut Truncated) c bytes s)
is_only bytes (Err f) (inl m) c s = m
is_only bytes (Err f) (inr h) c s = let q = h.2 in let p = file_lawful.again (end.Cut Truncated) c bytes s in absurd cc

pub is_fault : (bytes : List ℕ) (r : Result (List SectionTree) DecodeFault) → IsBytes bytes → Answers bytes r (file.reads (end.Cut Truncated) bytes) → IfErr r (λ f. (f.reason ≡ Memory) ⊎ FirstFault bytes f.at f.reason)
is_fault bytes (Ok c) fits h = tt {0}
is_fault bytes (Err f) fits (inl m) = inl m
is_fault bytes (Err f) fits (inr h) = inr (h.0, h.1, file_lawful.faulty (end.Cut Truncated) bytes (flaw h.0 f.reason) fits h.2)

same_place : (at left at' left' n : ℕ) (reason reason' : DecodeReason) → at + left ≡ n → at' + left' ≡ n → flaw left reason ≡ flaw left' reason' → (at ≡ at') × (reason ≡ reason')
same_place at left at' left' n reason reason' p q e =
    let lefts : left ≡ left' = ap (λ (f : Fault DecodeReason). f.left) e in
    (omega arith, ap (λ (f : Fault DecodeReason). f.reason) e)

pub is_first : (bytes : List ℕ) (r : Result (List SectionTree) DecodeFault) → Answers bytes r (file.reads (end.Cut Truncated) bytes) → (at : ℕ) (reason : DecodeReason) → FirstFault bytes at reason → Refuses r at reason
is_first bytes (Ok c) h at reason f = let p = file_lawful.faulty_again (end.Cut Truncated) bytes (flaw f.0 reason) f.2 in absurd cc
is_first bytes (Err d) (inl m) at reason f = inl m
is_first bytes (Err d) (inr h) at reason f =
    let p = err_is (List SectionTree) (flaw h.0 d.reason) (flaw f.0 reason) (sym h.2 ∙ file_lawful.faulty_again (end.Cut Truncated) bytes (flaw f.0 reason) f.2) in
    inr (same_place d.at h.0 at f.0 (length bytes) d.reason reason h.1 f.1 p)

-- The beginning of bytes are bytes.
front_bytes : (bytes more : List ℕ) → IsBytes (bytes ++ more) → IsBytes bytes
front_bytes bytes more h i =
    elim (cases_lt i (length bytes)) [
      | inl lt ↦ omega (arith, h i, get_or_append_left bytes more 0 i lt)
      | inr le ↦ rw (get_or_past bytes i 0 le) (omega arith)
    ]

pub stays : (bytes more : List ℕ) (at : ℕ) (reason : DecodeReason) → IsBytes (bytes ++ more) → (reason ≡ Truncated → ⊥) → FirstFault bytes at reason → FirstFault (bytes ++ more) at reason
stays bytes more at reason fits other f =
    elim (file_lawful.stays Truncated bytes (flaw f.0 reason) (front_bytes bytes more fits) (file_lawful.faulty_again (end.Cut Truncated) bytes (flaw f.0 reason) f.2)) [
      | inl same ↦ absurd (other (ap (λ (g : Fault DecodeReason). g.reason) same))
      | inr all ↦ (f.0 + length more, omega (arith, f.1, length-append bytes more), file_lawful.faulty (end.Cut Truncated) (bytes ++ more) (flaw (f.0 + length more) reason) fits (all (end.Cut Truncated) more))
    ]
