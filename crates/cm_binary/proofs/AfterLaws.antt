-- What bytes come to behind what was read.
use Rattle.std.proofs.Common.{◌≡◌, ℕ, ◌+◌, List, ◌++◌, length, Result, Ok, Err, refl, sym, ap, ◌∙◌, subst, arith}
use Rattle.std.specs.Prelude.{◌↔◌}
use Rattle.cm_binary_grammar.specs.declared.fault.Fault.{Fault}
use Rattle.cm_binary_grammar.specs.declared.fault.End.TheVariants as end
use Rattle.cm_binary_grammar.specs.Faults.{flaw}
use Rattle.cm_binary_model.specs.Trees.{SectionTree}
use Rattle.cm_binary_forms.specs.declared.fault.DecodeFault.{DecodeFault}
use Rattle.cm_binary_forms.specs.declared.fault.DecodeReason.{DecodeReason}
use Rattle.cm_binary_forms.specs.declared.fault.DecodeReason.TheVariants.{Truncated}
use Rattle.cm_binary.specs.Progress.{Progress, with_sections}
use Rattle.cm_binary.specs.After.{Answer, rest_of_file, ComesTo}
use Rattle.cm_binary.proofs.StopLaws.{rest_lawful}
use Rattle.cm_lemmas.proofs.Lists.{IsBytes}
use Rattle.cm_lemmas.proofs.Equations.{err_is, ok_is}
use Rattle.cm_lemmas.proofs.Results.{err_of, ok_of}

-- What is read of these bytes, with the sections that were read.
abbrev pub read_in_all : Progress → List ℕ → Result (List SectionTree) (Fault DecodeReason)
read_in_all p bytes = with_sections p.sections ((rest_of_file p).reads (end.Cut Truncated) bytes)

-- The answer of n bytes is what is read, with the place of a fault counted from the front.
abbrev pub IsPlaced : ℕ → Result (List SectionTree) (Fault DecodeReason) → Answer → Type 0
IsPlaced n read (Ok c) = read ≡ Ok c
IsPlaced n read (Err f) = (left : ℕ) × (f.at + left ≡ n) × (read ≡ Err (flaw left f.reason))

with_ok : (front : List SectionTree) (t : Result (List SectionTree) (Fault DecodeReason)) (c : List SectionTree) → with_sections front t ≡ Ok c → (more : List SectionTree) × (t ≡ Ok more) × (c ≡ front ++ more)
with_ok front (Ok more) c h = (more, refl, sym (ok_is (Fault DecodeReason) (front ++ more) c h))
with_ok front (Err f) c h = absurd cc

with_err : (front : List SectionTree) (t : Result (List SectionTree) (Fault DecodeReason)) (f : Fault DecodeReason) → with_sections front t ≡ Err f → t ≡ Err f
with_err front (Ok more) f h = absurd cc
with_err front (Err g) f h = ap (λ (d : Fault DecodeReason). err_of (List SectionTree) d) (err_is (List SectionTree) g f h)

pub comes_placed : (p : Progress) (bytes : List ℕ) (answer : Answer) → ComesTo p bytes answer → IsPlaced (p.offset + length bytes) (read_in_all p bytes) answer
comes_placed p bytes (Ok c) (more, spells, is) = rw ((rest_lawful p).again (end.Cut Truncated) more bytes spells, is) refl
comes_placed p bytes (Err f) (left, place, faulty) = (left, place, rw ((rest_lawful p).faulty_again (end.Cut Truncated) bytes (flaw left f.reason) faulty) refl)

pub placed_comes : (p : Progress) (bytes : List ℕ) (answer : Answer) → IsBytes bytes → IsPlaced (p.offset + length bytes) (read_in_all p bytes) answer → ComesTo p bytes answer
placed_comes p bytes (Ok c) fits h =
    let q = with_ok p.sections ((rest_of_file p).reads (end.Cut Truncated) bytes) c h in
    (q.0, (rest_lawful p).takes (end.Cut Truncated) bytes q.0 fits q.1, q.2)
placed_comes p bytes (Err f) fits (left, place, h) =
    let q = with_err p.sections ((rest_of_file p).reads (end.Cut Truncated) bytes) (flaw left f.reason) h in
    (left, place, (rest_lawful p).faulty (end.Cut Truncated) bytes (flaw left f.reason) fits q)

same_fault : (left : ℕ) (f g : DecodeFault) (n : ℕ) (other : ℕ) → f.at + left ≡ n → g.at + other ≡ n → flaw left f.reason ≡ flaw other g.reason → f ≡ g
same_fault left f g n other p q e =
    let lefts : left ≡ other = ap (λ (d : Fault DecodeReason). d.left) e in
    let places : f.at ≡ g.at = omega arith in
    let reasons : f.reason ≡ g.reason = ap (λ (d : Fault DecodeReason). d.reason) e in
    let same : record { at = f.at; reason = f.reason } ≡ g = rw (places, reasons) refl in
    same

-- There is one answer.
pub placed_once : (n : ℕ) (read : Result (List SectionTree) (Fault DecodeReason)) (a b : Answer) → IsPlaced n read a → IsPlaced n read b → a ≡ b
placed_once n read (Ok c) (Ok d) h k = ap (λ (x : List SectionTree). ok_of DecodeFault x) (ok_is (Fault DecodeReason) c d (sym h ∙ k))
placed_once n read (Ok c) (Err g) h (other, q, k) = absurd cc
placed_once n read (Err f) (Ok d) (left, p, h) k = absurd cc
placed_once n read (Err f) (Err g) (left, p, h) (other, q, k) = ap (λ (x : DecodeFault). err_of (List SectionTree) x) (same_fault left f g n other p q (err_is (List SectionTree) (flaw left f.reason) (flaw other g.reason) (sym h ∙ k)))

pub comes_once : (p : Progress) (bytes : List ℕ) (a b : Answer) → ComesTo p bytes a → ComesTo p bytes b → a ≡ b
comes_once p bytes a b h k = placed_once (p.offset + length bytes) (read_in_all p bytes) a b (comes_placed p bytes a h) (comes_placed p bytes b k)

moved : (m n : ℕ) (s t : Result (List SectionTree) (Fault DecodeReason)) (answer : Answer) → m ≡ n → s ≡ t → IsPlaced m s answer → IsPlaced n t answer
moved m n s t answer p q h = subst (λ (k : ℕ). IsPlaced k t answer) p (subst (λ (r : Result (List SectionTree) (Fault DecodeReason)). IsPlaced m r answer) q h)

-- Where the same is read of as many bytes, the answers are the same.
pub comes_same : (old new : Progress) (bytes rest : List ℕ) (answer : Answer) → IsBytes bytes → IsBytes rest → old.offset + length bytes ≡ new.offset + length rest → read_in_all old bytes ≡ read_in_all new rest → ComesTo new rest answer ↔ ComesTo old bytes answer
comes_same old new bytes rest answer fits fits_rest counts read = (
  λ h. placed_comes old bytes answer fits (moved _ _ _ _ answer (sym counts) (sym read) (comes_placed new rest answer h)),
  λ h. placed_comes new rest answer fits_rest (moved _ _ _ _ answer counts read (comes_placed old bytes answer h)),
)

-- Where this fault is read, it is the answer.
pub comes_fault : (p : Progress) (bytes : List ℕ) (at left : ℕ) (reason : DecodeReason) → IsBytes bytes → at + left ≡ p.offset + length bytes → read_in_all p bytes ≡ Err (flaw left reason) → ComesTo p bytes (Err (record { at = at; reason = reason }))
comes_fault p bytes at left reason fits place h = placed_comes p bytes (Err (record { at = at; reason = reason })) fits (left, place, h)
