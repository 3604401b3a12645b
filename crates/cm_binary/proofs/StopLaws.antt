-- Where reading stops: a fault that stays, or want of a byte.
use Rattle.std.proofs.Common.{◌≡◌, ℕ, ◌+◌, ◌-◌, ◌<◌, ◌≤◌, List, [], ◌∷◌, ◌++◌, length, take, drop, Result, Ok, Err, refl, sym, ap, ◌∙◌, subst, append-nil, arith, inl, inr, ◌⊎◌}
use Rattle.std.proofs.lemmas.List.{length-append, length-drop, length-take, take-append-le}
use Rattle.cm_binary_grammar.specs.declared.fault.Fault.{Fault}
use Rattle.cm_binary_grammar.specs.declared.fault.End.{End}
use Rattle.cm_binary_grammar.specs.declared.fault.End.TheVariants as end
use Rattle.cm_binary_grammar.specs.declared.fault.ReadError.TheVariants as errors
use Rattle.cm_binary_grammar.specs.Faults.{later, want}
use Rattle.cm_binary_grammar.specs.Grammar.{fixed}
use Rattle.cm_binary_grammar.specs.Whole.{too_many, and_behind}
use Rattle.cm_binary_grammar.proofs.Tools.{IsBytes-take, then_from_err, later-later}
use Rattle.cm_binary_grammar.proofs.Laws.{fixed_lawful}
use Rattle.cm_binary_grammar.proofs.WholeLaws.{LawfulWhole}
use Rattle.cm_binary_grammar.proofs.PartLaws.{cases_le}
use Rattle.cm_binary_grammar.proofs.EndLaws.{to_end_stops, at_most_lawful, at_most_cut}
use Rattle.cm_binary_grammar.proofs.WantLaws.{EndsWhole, at_most_ends}
use Rattle.cm_binary_model.specs.Trees.{SectionTree}
use Rattle.cm_binary_model.specs.declared.limits.TheConstants.{COMPONENT_PREAMBLE, MAX_FILE_BYTES, MAX_TYPES}
use Rattle.cm_binary_forms.specs.declared.fault.DecodeReason.{DecodeReason}
use Rattle.cm_binary_forms.specs.declared.fault.DecodeReason.TheVariants.{BadPreamble, Truncated, TooLong}
use Rattle.cm_binary_forms.specs.Sections.{section, sections, room_after}
use Rattle.cm_binary_forms.specs.File.{component}
use Rattle.cm_binary_forms.proofs.LawfulSections.{section_lawful, section_nonempty, sections_lawful}
use Rattle.cm_binary_forms.proofs.LawfulFile.{component_lawful}
use Rattle.cm_binary.proofs.FileWants.{sections_ends, component_ends, too_long}
use Rattle.cm_binary.specs.declared.front.Next.{Next}
use Rattle.cm_binary.specs.declared.front.Next.TheVariants as nexts
use Rattle.cm_binary.specs.Progress.{Progress, from, behind, StopsBy, Stops, with_sections, HasRead, Reaches}
use Rattle.cm_binary.specs.After.{rest_of_file}
use Rattle.cm_binary.proofs.LimitLaws.{limited_fits, limited_cut, with_behind}
use Rattle.cm_lemmas.proofs.Lists.{IsBytes}
use Rattle.cm_lemmas.proofs.Equations.{err_is}
use Rattle.cm_lemmas.proofs.Results.{err_of}

-- ---- what may stand behind is read exactly

from_lawful : (n : Next) (room : ℕ) → LawfulWhole (from n room)
from_lawful nexts.Preamble room = component_lawful
from_lawful nexts.Section room = sections_lawful room

from_ends : (n : Next) (room : ℕ) → EndsWhole Truncated (from n room)
from_ends nexts.Preamble room = component_ends
from_ends nexts.Section room = sections_ends room

pub rest_lawful : (p : Progress) → LawfulWhole (rest_of_file p)
rest_lawful p = at_most_lawful _ _ _ (from_lawful p.next p.room)

pub rest_ends : (p : Progress) → EndsWhole Truncated (rest_of_file p)
rest_ends p = at_most_ends _ _ _ _ too_long (from_ends p.next p.room)

-- ---- where reading stops

-- Of no byte a section is wanted.
pub no_section : (room : ℕ) (e : End DecodeReason) (f : Fault DecodeReason) → (section room).reads e [] ≡ Err f → f ≡ want e
unfolding section
no_section room e f h = sym (err_is (SectionTree × List ℕ) (want e) f h)

stop_read_by : (n : Next) (room : ℕ) (e : End DecodeReason) (rest : List ℕ) (f : Fault DecodeReason) → StopsBy n room e rest (errors.Fault f) → ((from n room).reads e rest ≡ Err f) ⊎ ((n ≡ nexts.Section) × (rest ≡ []) × (f ≡ want e))
unfolding component sections
stop_read_by nexts.Preamble room e rest f h = inl (then_from_err ((fixed COMPONENT_PREAMBLE BadPreamble).reads e rest) (λ (x : Unit {0} × List ℕ). (sections MAX_TYPES).reads e x.1) f h)
stop_read_by nexts.Section room e [] f h = inr (refl, refl, no_section room e f h)
stop_read_by nexts.Section room e (b ∷ rest) f h = inl (to_end_stops section room_after section_lawful section_nonempty room e (b ∷ rest) f (omega arith) h)

-- What is read where reading stops: the fault, or no more sections.
pub stop_read : (p : Progress) (e : End DecodeReason) (rest : List ℕ) (f : Fault DecodeReason) → Stops p e rest (errors.Fault f) → ((behind p).reads e rest ≡ Err f) ⊎ ((p.next ≡ nexts.Section) × (rest ≡ []) × (f ≡ want e))
stop_read p e rest f h = stop_read_by p.next p.room e rest f h

nothing_behind_by : (n : Next) (room : ℕ) (e : End DecodeReason) → n ≡ nexts.Section → (from n room).reads e [] ≡ Ok []
unfolding sections
nothing_behind_by nexts.Preamble room e h = absurd cc
nothing_behind_by nexts.Section room e h = refl

-- Of no byte no more sections are read.
pub nothing_behind : (p : Progress) (e : End DecodeReason) → p.next ≡ nexts.Section → (behind p).reads e [] ≡ Ok []
nothing_behind p e h = nothing_behind_by p.next p.room e h

stop_stays_by : (n : Next) (room : ℕ) (rest : List ℕ) (f : Fault DecodeReason) → IsBytes rest → StopsBy n room (end.Cut Truncated) rest (errors.Fault f) → (f.reason ≡ Truncated → ⊥) → (e : End DecodeReason) (more : List ℕ) → (from n room).reads e (rest ++ more) ≡ Err (later f (length more))
unfolding component sections
stop_stays_by nexts.Preamble room rest f fits h other e more =
    elim ((fixed_lawful COMPONENT_PREAMBLE BadPreamble).stays Truncated rest f fits h) [
      | inl k ↦ absurd (other (ap (λ (g : Fault DecodeReason). g.reason) k))
      | inr k ↦ then_from_err ((fixed COMPONENT_PREAMBLE BadPreamble).reads e (rest ++ more)) (λ (x : Unit {0} × List ℕ). (sections MAX_TYPES).reads e x.1) (later f (length more)) (k e more)
    ]
stop_stays_by nexts.Section room [] f fits h other e more = absurd (other (ap (λ (g : Fault DecodeReason). g.reason) (no_section room (end.Cut Truncated) f h)))
stop_stays_by nexts.Section room (b ∷ rest) f fits h other e more =
    elim ((section_lawful room).stays Truncated (b ∷ rest) f fits h) [
      | inl k ↦ absurd (other (ap (λ (g : Fault DecodeReason). g.reason) k))
      | inr k ↦ to_end_stops section room_after section_lawful section_nonempty room e (b ∷ (rest ++ more)) (later f (length more)) (omega arith) (k e more)
    ]

-- A fault but want of a byte is the fault whatever follows.
pub stop_stays : (p : Progress) (rest : List ℕ) (f : Fault DecodeReason) → IsBytes rest → p.offset + length rest ≤ MAX_FILE_BYTES → Stops p (end.Cut Truncated) rest (errors.Fault f) → (f.reason ≡ Truncated → ⊥) → (more : List ℕ) → (rest_of_file p).reads (end.Cut Truncated) (rest ++ more) ≡ Err (later f (length more))
stop_stays p rest f fits few h other more =
    let room : ℕ = MAX_FILE_BYTES - (p.offset + length rest) in
    let limit : MAX_FILE_BYTES - p.offset ≡ length rest + room = omega arith in
    elim (cases_le (length more) room) [
      | inl le ↦ limited_fits (behind p) TooLong (end.Cut Truncated) (MAX_FILE_BYTES - p.offset) room rest more limit le ∙ stop_stays_by p.next p.room rest f fits h other (end.Cut Truncated) more
      | inr lt ↦
          let inner = stop_stays_by p.next p.room rest f fits h other (end.Cut TooLong) (take room more) in
          rw (limited_cut (behind p) TooLong (end.Cut Truncated) (MAX_FILE_BYTES - p.offset) room rest more limit lt, inner) (ap (λ (g : Fault DecodeReason). err_of (List SectionTree) g) (later-later f (length (take room more)) (length more - room) (length more) (omega (arith, length-take room more))))
    ]

-- Where more bytes came than a file may have, the fault is that of the bytes within the limit, or
-- that there are more.
pub stop_too_long : (old new : Progress) (bytes rest : List ℕ) (f : Fault DecodeReason) → MAX_FILE_BYTES - old.offset < length bytes → HasRead old → Reaches old (take (MAX_FILE_BYTES - old.offset) bytes) rest new → Stops new (end.Cut TooLong) rest (errors.Fault f) → (more : List ℕ) → IsBytes (bytes ++ more) → with_sections old.sections ((rest_of_file old).reads (end.Cut Truncated) (bytes ++ more)) ≡ Err (later f (length (bytes ++ more) - (MAX_FILE_BYTES - old.offset)))
stop_too_long old new bytes rest f long h r stop more fits =
    let limit : ℕ = MAX_FILE_BYTES - old.offset in
    let front : take limit (bytes ++ more) ≡ take limit bytes = take-append-le limit bytes more (omega arith) in
    let fits_front : IsBytes (take limit bytes) = subst IsBytes front (IsBytes-take limit (bytes ++ more) fits) in
    let all = rw (append-nil (take limit bytes), append-nil rest) at (r.same h (end.Cut TooLong) [] (subst IsBytes (sym (append-nil (take limit bytes))) fits_front)) in
    let behind_limit : ℕ = length (drop limit (bytes ++ more)) in
    let cut = at_most_cut limit TooLong (behind old) (end.Cut Truncated) (bytes ++ more) (omega (arith, length-append bytes more)) ∙ ap (λ (b : List ℕ). and_behind behind_limit (too_many TooLong ((behind old).reads (end.Cut TooLong) b))) front in
    let inner : too_many TooLong (with_sections new.sections ((behind new).reads (end.Cut TooLong) rest)) ≡ Err f =
    elim (stop_read new (end.Cut TooLong) rest f stop) [
      | inl k ↦ rw k refl
      | inr k ↦ rw (k.1, nothing_behind new (end.Cut TooLong) k.0, k.2) refl
    ] in
    ap (with_sections old.sections) cut ∙ with_behind old.sections behind_limit TooLong ((behind old).reads (end.Cut TooLong) (take limit bytes))
    ∙ ap (λ (t : Result (List SectionTree) (Fault DecodeReason)). and_behind behind_limit (too_many TooLong t)) all ∙ ap (and_behind behind_limit) inner
    ∙ ap (λ (n : ℕ). err_of (List SectionTree) (later f n)) (length-drop limit (bytes ++ more))
