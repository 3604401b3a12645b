-- A file's bytes come to one answer, and want of a byte stands at their end.
use Rattle.std.proofs.Common.{◌≡◌, ℕ, ◌+◌, ◌-◌, List, length, Result, Ok, Err, refl, sym, ap, ◌∙◌, arith}
use Rattle.cm_binary_grammar.specs.declared.fault.Fault.{Fault}
use Rattle.cm_binary_grammar.specs.declared.fault.End.TheVariants as end
use Rattle.cm_binary_grammar.specs.Faults.{flaw}
use Rattle.cm_binary_grammar.proofs.AnswerLaws.{comes_read}
use Rattle.cm_binary_model.specs.Trees.{SectionTree}
use Rattle.cm_binary_forms.specs.declared.fault.DecodeFault.{DecodeFault}
use Rattle.cm_binary_forms.specs.declared.fault.DecodeReason.{DecodeReason}
use Rattle.cm_binary_forms.specs.declared.fault.DecodeReason.TheVariants.{Truncated}
use Rattle.cm_binary_forms.specs.File.{file, FirstFault}
use Rattle.cm_binary.specs.Answers.{IsAnswer, IsOnlyAnswer}
use Rattle.cm_binary_forms.proofs.LawfulFile.{file_lawful}
use Rattle.cm_binary.proofs.FileWants.{file_ends}
use Rattle.cm_lemmas.proofs.Lists.{IsBytes}
use Rattle.cm_lemmas.proofs.Results.{err_of}

abbrev Answer : Type 0
Answer = Result (List SectionTree) DecodeFault

-- The fault with its place counted from the front, of so many bytes.
abbrev placed : ℕ → Result (List SectionTree) (Fault DecodeReason) → Answer
placed n (Ok c) = Ok c
placed n (Err f) = Err (record { at = n - f.left; reason = f.reason })

same_fault : (n left : ℕ) (f : DecodeFault) → f.at + left ≡ n → f ≡ record { at = n - left; reason = f.reason }
same_fault n left f h = let p : f.at ≡ n - left = omega arith in rw (← p) refl

only_read : (bytes : List ℕ) (read : Result (List SectionTree) (Fault DecodeReason)) (other : Answer) → file.reads (end.Cut Truncated) bytes ≡ read → IsAnswer bytes other → other ≡ placed (length bytes) read
only_read bytes read (Ok c) h a = ap (placed (length bytes)) (sym (comes_read file file_lawful (end.Cut Truncated) bytes (Ok c) a) ∙ h)
only_read bytes read (Err f) h a =
    let same : read ≡ Err (flaw a.0 f.reason) = sym h ∙ comes_read file file_lawful (end.Cut Truncated) bytes (Err (flaw a.0 f.reason)) a.2 in
    rw same (ap (λ (d : DecodeFault). err_of (List SectionTree) d) (same_fault (length bytes) a.0 f a.1))

is_answer : (bytes : List ℕ) (read : Result (List SectionTree) (Fault DecodeReason)) → IsBytes bytes → file.reads (end.Cut Truncated) bytes ≡ read → IsAnswer bytes (placed (length bytes) read)
is_answer bytes (Ok c) fits h = file_lawful.takes (end.Cut Truncated) bytes c fits h
is_answer bytes (Err f) fits h = (f.left, omega (arith, file_lawful.within (end.Cut Truncated) bytes f fits h), file_lawful.faulty (end.Cut Truncated) bytes f fits h)

pub one_answer : (bytes : List ℕ) → IsBytes bytes → (answer : Answer) × IsOnlyAnswer bytes answer
one_answer bytes fits =
    let read = file.reads (end.Cut Truncated) bytes in
    (placed (length bytes) read, (is_answer bytes read fits refl, λ other a. only_read bytes read other refl a))

pub want_at_end : (bytes : List ℕ) (at : ℕ) → FirstFault bytes at Truncated → at ≡ length bytes
want_at_end bytes at h =
    let p : h.0 ≡ 0 = ap (λ (f : Fault DecodeReason). f.left) (file_ends.at_end (end.Cut Truncated) bytes (flaw h.0 Truncated) h.2 refl) in
    omega arith
