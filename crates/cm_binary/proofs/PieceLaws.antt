-- A decoder and its pieces.
use Rattle.std.proofs.Common.{◌≡◌, ℕ, zero, suc, ◌+◌, ◌-◌, ◌<◌, ◌≤◌, List, [], ◌∷◌, ◌++◌, length, take, drop, Option, Some, None, Result, Ok, Err, refl, sym, ap, ◌∙◌, subst, append_assoc, append-nil, arith, inl, inr, ◌⊎◌, true}
use Rattle.std.specs.Prelude.{◌↔◌, IfOk, IfErr}
use Rattle.std.specs.List.{list_all}
use Rattle.std.proofs.lemmas.Bool.{cases_lt}
use Rattle.std.proofs.lemmas.List.{length-append, length-take, drop_at, get_or_append_left, get_or-append-add, get_or_past}
use Rattle.cm_binary_grammar.specs.declared.fault.Fault.{Fault}
use Rattle.cm_binary_grammar.specs.declared.fault.End.{End}
use Rattle.cm_binary_grammar.specs.declared.fault.End.TheVariants as end
use Rattle.cm_binary_grammar.specs.declared.fault.ReadError.{ReadError}
use Rattle.cm_binary_grammar.specs.declared.fault.ReadError.TheVariants as errors
use Rattle.cm_binary_grammar.specs.Faults.{flaw, want}
use Rattle.cm_binary_grammar.proofs.Tools.{IsBytes-after, parts_more}
use Rattle.cm_binary_grammar.proofs.Laws.{fixed_lawful}
use Rattle.cm_binary_grammar.proofs.EndLaws.{at_most_all}
use Rattle.cm_binary_grammar.proofs.WantLaws.{fixed_ends, inside_ends}
use Rattle.cm_binary_model.specs.Trees.{SectionTree}
use Rattle.cm_binary_model.specs.declared.limits.TheConstants.{COMPONENT_PREAMBLE, MAX_FILE_BYTES}
use Rattle.cm_binary_forms.specs.declared.fault.DecodeFault.{DecodeFault}
use Rattle.cm_binary_forms.specs.declared.fault.DecodeReason.{DecodeReason}
use Rattle.cm_binary_forms.specs.declared.fault.DecodeReason.TheVariants.{BadPreamble, Truncated, TooLong, SizeMismatch, Memory}
use Rattle.cm_binary_forms.specs.Sections.{section, contents}
use Rattle.cm_binary_forms.specs.File.{file}
use Rattle.cm_binary.specs.Answers.{IsAnswer}
use Rattle.cm_binary_forms.proofs.LawfulSections.{section_lawful}
use Rattle.cm_binary_model.specs.Limits.{limit_fault}
use Rattle.cm_binary_model.specs.Parts.{holds}
use Rattle.cm_binary.proofs.File.{spelled_within}
use Rattle.cm_binary.proofs.PartPasses.{component_holds}
use Rattle.cm_binary.proofs.FileWants.{section_ends, contents_ends, bad_preamble, bad_number, size_mismatch}
use Rattle.cm_binary.specs.declared.front.Next.{Next}
use Rattle.cm_binary.specs.declared.front.Next.TheVariants as nexts
use Rattle.cm_binary.specs.Progress.{HasReadBy, Progress, fresh, behind, StopsBy, Stops, HasRead, Reaches}
use Rattle.cm_binary.specs.After.{After, Answer, Held, rest_of_file, ComesTo, Follows, IsSettled, BeginsSection, Waits, IsHeld, GoesOn, HasFault, EndsEarly, StopsAt}
use Rattle.cm_binary.proofs.LimitLaws.{limited_same}
use Rattle.cm_binary.proofs.StopLaws.{rest_lawful, rest_ends, stop_read, nothing_behind, stop_stays, stop_too_long}
use Rattle.cm_binary.proofs.AfterLaws.{comes_same, comes_fault}
use Rattle.cm_lemmas.proofs.Lists.{IsBytes}
use Rattle.cm_lemmas.proofs.Equations.{err_is}

-- ---- how many bytes are kept

few_first : (kept : List ℕ) → IsBytes kept → StopsBy nexts.Preamble 0 (end.Cut Truncated) kept (errors.Fault (flaw 0 Truncated)) → length kept ≤ 7
few_first kept fits h =
    elim ((fixed_lawful COMPONENT_PREAMBLE BadPreamble).faulty (end.Cut Truncated) kept (flaw 0 Truncated) fits h) [
      | inl q ↦ omega (arith, ap length q.0.literal_is, length-append kept (q.0.next ∷ q.0.tail))
      | inr q ↦ absurd (bad_preamble (sym (ap (λ (f : Fault DecodeReason). f.reason) q.2)))
    ]

few_section : (room : ℕ) (kept : List ℕ) → IsBytes kept → (section room).reads (end.Cut Truncated) kept ≡ Err (flaw 0 Truncated) → (length kept ≤ 7) ⊎ ((size : ℕ) × BeginsSection size kept × (length kept ≤ size + 6))
unfolding section
few_section room kept fits h =
    elim ((section_lawful room).faulty (end.Cut Truncated) kept (flaw 0 Truncated) fits h) [
      | inl (inl q) ↦ inl (rw (q.0) (omega arith))
      | inl (inr q) ↦ inl (let p : 0 ≡ length kept = ap (λ (f : Fault DecodeReason). f.left) q.5 in omega arith)
      | inr (kind, front, rest, id, parts, inl (inl q)) ↦ inl (omega (arith, ap length parts, length-append front rest, ap length id.1, q.0.0))
      | inr (kind, front, rest, id, parts, inl (inr q)) ↦ absurd (bad_number (sym (ap (λ (f : Fault DecodeReason). f.reason) q.1)))
      | inr (kind, front, rest, id, parts, inr (size, number, held, spells, parts2, inl q)) ↦ absurd (inside_ends Truncated SizeMismatch (contents room kind) (end.Whole SizeMismatch) q.0 (length q.1) q.2 (flaw 0 Truncated) refl size_mismatch (contents_ends room kind) q.5 q.6 refl)
      | inr (kind, front, rest, id, parts, inr (size, number, held, spells, parts2, inr q)) ↦
          let all : kept ≡ id.0 ∷ (number ++ held) = parts ∙ ap (λ (b : List ℕ). b ++ rest) id.1 ∙ ap (λ (b : List ℕ). id.0 ∷ b) parts2 in
          inr (size, (id.0, number, held, all, spells), omega (arith, ap length all, length-append number held, spells.short, q.0))
    ]

few_by : (n : Next) (room : ℕ) (kept : List ℕ) → IsBytes kept → StopsBy n room (end.Cut Truncated) kept (errors.Fault (flaw 0 Truncated)) → (length kept ≤ 7) ⊎ ((size : ℕ) × BeginsSection size kept × (length kept ≤ size + 6))
few_by nexts.Preamble room kept fits h = inl (few_first kept fits h)
few_by nexts.Section room kept fits h = few_section room kept fits h

pub few_kept : (fault : Option DecodeFault) (p : Progress) (kept : List ℕ) → IsHeld fault p kept → (length kept ≤ 7) ⊎ ((size : ℕ) × BeginsSection size kept × (length kept ≤ size + 6))
few_kept (Some fault) p kept h = inl (rw h (omega arith))
few_kept None p kept h = few_by p.next p.room kept h.bytes h.wants

-- ---- where want of a byte stops reading

wants_at_end : (n : Next) (room left : ℕ) (e : End DecodeReason) (rest : List ℕ) → IsBytes rest → StopsBy n room e rest (errors.Fault (flaw left Truncated)) → flaw left Truncated ≡ want e
wants_at_end nexts.Preamble room left e rest fits h = (fixed_ends Truncated COMPONENT_PREAMBLE BadPreamble bad_preamble).at_end e rest (flaw left Truncated) ((fixed_lawful COMPONENT_PREAMBLE BadPreamble).faulty e rest (flaw left Truncated) fits h) refl
wants_at_end nexts.Section room left e rest fits h = (section_ends room).at_end e rest (flaw left Truncated) ((section_lawful room).faulty e rest (flaw left Truncated) fits h) refl

-- Within the limit the file may go on there.
pub goes_on : (old new : Progress) (bytes rest : List ℕ) → IsBytes bytes → HasRead old → old.offset + length bytes ≤ MAX_FILE_BYTES → EndsEarly old (end.Cut Truncated) bytes rest new → GoesOn old bytes rest new
goes_on old new bytes rest fits read few h =
    let r = h.reached in
    let fits_rest = IsBytes-after bytes r.taken rest r.parts fits in
    let want_is = wants_at_end new.next new.room h.left (end.Cut Truncated) rest fits_rest h.stopped in
    record {
      reached = r;
      waits = record {
        read = r.sound read;
        bytes = fits_rest;
        few = omega (arith, r.counted, ap length r.parts, length-append r.taken rest);
        wants = subst (λ (f : Fault DecodeReason). Stops new (end.Cut Truncated) rest (errors.Fault f)) want_is h.stopped;
      };
    }

-- Where the limit cuts the bytes, no want of more input stops reading.
pub never_early : (old new : Progress) (bytes rest : List ℕ) → IsBytes bytes → EndsEarly old (end.Cut TooLong) bytes rest new → ⊥
never_early old new bytes rest fits h =
    let r = h.reached in
    let e = ap (λ (f : Fault DecodeReason). f.reason) (wants_at_end new.next new.room h.left (end.Cut TooLong) rest (IsBytes-after bytes r.taken rest r.parts fits) h.stopped) in
    absurd cc

-- ---- a fault that stays

pub fault_within : (old new : Progress) (bytes : List ℕ) (f : DecodeFault) → IsBytes bytes → HasRead old → old.offset + length bytes ≤ MAX_FILE_BYTES → StopsAt old (end.Cut Truncated) bytes f new → HasFault old bytes f
fault_within old new bytes f fits read few h more fits_more =
    let r = h.reached in
    let fits_rest = IsBytes-after bytes r.taken h.rest r.parts fits in
    let few_rest : new.offset + length h.rest ≤ MAX_FILE_BYTES = omega (arith, r.counted, ap length r.parts, length-append r.taken h.rest) in
    let stays = stop_stays new h.rest (flaw h.left f.reason) fits_rest few_rest h.stopped h.other more in
    let same = limited_same old new bytes h.rest more r read few fits_more in
    comes_fault old (bytes ++ more) f.at (h.left + length more) f.reason fits_more (omega (arith, h.place, r.counted, ap length r.parts, length-append r.taken h.rest, length-append bytes more)) (same ∙ rw stays refl)

pub fault_too_long : (old new : Progress) (bytes : List ℕ) (f : DecodeFault) → HasRead old → old.offset ≤ MAX_FILE_BYTES → MAX_FILE_BYTES - old.offset < length bytes → StopsAt old (end.Cut TooLong) (take (MAX_FILE_BYTES - old.offset) bytes) f new → HasFault old bytes f
fault_too_long old new bytes f read few long h more fits_more =
    let r = h.reached in
    let limit : ℕ = MAX_FILE_BYTES - old.offset in
    let behind_limit : ℕ = length (bytes ++ more) - limit in
    let stays = stop_too_long old new bytes h.rest (flaw h.left f.reason) long read r h.stopped more fits_more in
    comes_fault old (bytes ++ more) f.at (h.left + behind_limit) f.reason fits_more (omega (arith, h.place, r.counted, ap length r.parts, length-append r.taken h.rest, length-take limit bytes, length-append bytes more)) stays

-- ---- what the results say

pub within_ok : (old new : Progress) (bytes : List ℕ) (r : Result ℕ DecodeFault) → IsBytes bytes → HasRead old → old.offset + length bytes ≤ MAX_FILE_BYTES → IfOk r (λ n. (n ≤ length bytes) × EndsEarly old (end.Cut Truncated) bytes (drop n bytes) new) → IfOk r (λ n. (n ≤ length bytes) × GoesOn old bytes (drop n bytes) new)
within_ok old new bytes (Ok n) fits read few h = (h.0, goes_on old new bytes (drop n bytes) fits read few h.1)
within_ok old new bytes (Err f) fits read few h = tt {0}

pub within_err : (old new : Progress) (bytes : List ℕ) (r : Result ℕ DecodeFault) → IsBytes bytes → HasRead old → old.offset + length bytes ≤ MAX_FILE_BYTES → IfErr r (λ f. (f.reason ≡ Memory) ⊎ StopsAt old (end.Cut Truncated) bytes f new) → IfErr r (λ f. (f.reason ≡ Memory) ⊎ HasFault old bytes f)
within_err old new bytes (Ok n) fits read few h = tt {0}
within_err old new bytes (Err f) fits read few (inl m) = inl m
within_err old new bytes (Err f) fits read few (inr h) = inr (fault_within old new bytes f fits read few h)

pub too_long_ok : (old new : Progress) (bytes front : List ℕ) (r : Result ℕ DecodeFault) → IsBytes front → IfOk r (λ n. (n ≤ length front) × EndsEarly old (end.Cut TooLong) front (drop n front) new) → IfOk r (λ n. (n ≤ length bytes) × GoesOn old bytes (drop n bytes) new)
too_long_ok old new bytes front (Ok n) fits h = absurd (never_early old new front (drop n front) fits h.1)
too_long_ok old new bytes front (Err f) fits h = tt {0}

pub too_long_err : (old new : Progress) (bytes : List ℕ) (r : Result ℕ DecodeFault) → HasRead old → old.offset ≤ MAX_FILE_BYTES → MAX_FILE_BYTES - old.offset < length bytes → IfErr r (λ f. (f.reason ≡ Memory) ⊎ StopsAt old (end.Cut TooLong) (take (MAX_FILE_BYTES - old.offset) bytes) f new) → IfErr r (λ f. (f.reason ≡ Memory) ⊎ HasFault old bytes f)
too_long_err old new bytes (Ok n) read few long h = tt {0}
too_long_err old new bytes (Err f) read few long (inl m) = inl m
too_long_err old new bytes (Err f) read few long (inr h) = inr (fault_too_long old new bytes f read few long h)

-- What is left behind the bytes that were taken.
pub left_behind : (bytes taken rest : List ℕ) → bytes ≡ taken ++ rest → drop (length bytes - length rest) bytes ≡ rest
left_behind bytes taken rest h =
    let n : length bytes - length rest ≡ length taken = omega (arith, ap length h, length-append taken rest) in
    rw (n, h) (drop_at taken rest (length taken) refl)

pub ends_early : (old new : Progress) (e : End DecodeReason) (bytes rest : List ℕ) (error : ReadError DecodeReason) (f : Fault DecodeReason) → error ≡ errors.Fault f → f.reason ≡ Truncated → Reaches old bytes rest new → Stops new e rest error → (length bytes - length rest ≤ length bytes) × EndsEarly old e bytes (drop (length bytes - length rest) bytes) new
ends_early old new e bytes rest error f is reason r h =
    let same : flaw f.left f.reason ≡ flaw f.left Truncated = ap (λ (s : DecodeReason). flaw f.left s) reason in
    let early : EndsEarly old e bytes rest new = record {
      reached = r;
      left = f.left;
      stopped = subst (λ (g : Fault DecodeReason). Stops new e rest (errors.Fault g)) same (subst (Stops new e rest) is h);
    } in
    (omega arith, rw (left_behind bytes r.taken rest r.parts) early)

-- ---- a piece

pub IsBytes-append : (front rest : List ℕ) → IsBytes front → IsBytes rest → IsBytes (front ++ rest)
IsBytes-append front rest h k i =
    elim (cases_lt i (length front)) [
      | inl lt ↦ rw (get_or_append_left front rest 0 i lt) (h i)
      | inr le ↦
          let place : i ≡ length front + (i - length front) = omega arith in
          rw (place, get_or-append-add front rest (i - length front) 0) (k (i - length front))
    ]

-- The answers of a decoder that goes on are those of the one before, with the piece.
follows_read : (old new : Progress) (kept piece rest more : List ℕ) (answer : Answer) → Waits old kept → GoesOn old (kept ++ piece) rest new → IsBytes (piece ++ more) → ComesTo new (rest ++ more) answer ↔ ComesTo old (kept ++ (piece ++ more)) answer
follows_read old new kept piece rest more answer w g fits =
    let r = g.reached in
    let all : (kept ++ piece) ++ more ≡ kept ++ (piece ++ more) = append_assoc kept piece more in
    let fits_all : IsBytes ((kept ++ piece) ++ more) = rw all (IsBytes-append kept (piece ++ more) w.bytes fits) in
    let parts : (kept ++ piece) ++ more ≡ r.taken ++ (rest ++ more) = parts_more (kept ++ piece) r.taken rest more r.parts in
    let few : old.offset + length (kept ++ piece) ≤ MAX_FILE_BYTES = omega (arith, g.waits.few, r.counted, ap length r.parts, length-append r.taken rest) in
    rw (← all) (comes_same old new ((kept ++ piece) ++ more) (rest ++ more) answer fits_all (IsBytes-after ((kept ++ piece) ++ more) r.taken (rest ++ more) parts fits_all) (omega (arith, r.counted, ap length parts, length-append r.taken (rest ++ more))) (limited_same old new (kept ++ piece) rest more r w.read few fits_all))

pub follows : (old new : Held) (piece : List ℕ) → old.fault ≡ None → new.fault ≡ None → Waits old.read old.kept → GoesOn old.read (old.kept ++ piece) new.kept new.read → Follows old piece new
follows old new piece old_none new_none w g = record {
  answers = λ more answer fits. rw (old_none, new_none) (follows_read old.read new.read old.kept piece new.kept more answer w g fits);
  unharmed = new_none;
  counted = omega (arith, g.reached.counted, ap length g.reached.parts, length-append g.reached.taken new.kept, length-append old.kept piece);
}

-- ---- where a decoder waits, no fault is settled

within_reads : (p : Progress) (kept : List ℕ) → p.offset + length kept ≤ MAX_FILE_BYTES → (rest_of_file p).reads (end.Cut Truncated) kept ≡ (behind p).reads (end.Cut Truncated) kept
within_reads p kept few = at_most_all (MAX_FILE_BYTES - p.offset) TooLong (behind p) (end.Cut Truncated) kept (omega arith)

-- Of the bytes kept alone, a byte is wanted, or they are none.
pub waits_read : (p : Progress) (kept : List ℕ) → Waits p kept → ((rest_of_file p).reads (end.Cut Truncated) kept ≡ Err (flaw 0 Truncated)) ⊎ ((p.next ≡ nexts.Section) × (kept ≡ []))
waits_read p kept w =
    elim (stop_read p (end.Cut Truncated) kept (flaw 0 Truncated) w.wants) [
      | inl k ↦ inl (within_reads p kept w.few ∙ k)
      | inr k ↦ inr (k.0, k.1)
    ]

open_waits : (p : Progress) (kept : List ℕ) (f : DecodeFault) → Waits p kept → ComesTo p kept (Err f) → ComesTo p (kept ++ 0 ∷ []) (Err f) → ⊥
open_waits p kept f w h k =
    let read = (rest_lawful p).faulty_again (end.Cut Truncated) kept (flaw h.0 f.reason) h.2 in
    elim (waits_read p kept w) [
      | inl wants ↦
          let same = err_is (List SectionTree) (flaw h.0 f.reason) (flaw 0 Truncated) (sym read ∙ wants) in
          let reason : f.reason ≡ Truncated = ap (λ (d : Fault DecodeReason). d.reason) same in
          let first : h.0 ≡ 0 = ap (λ (d : Fault DecodeReason). d.left) same in
          let second : k.0 ≡ 0 = ap (λ (d : Fault DecodeReason). d.left) ((rest_ends p).at_end (end.Cut Truncated) (kept ++ 0 ∷ []) (flaw k.0 f.reason) k.2 reason) in
          omega (arith, h.1, k.1, length-append kept (0 ∷ []))
      | inr none ↦
          let nothing : (rest_of_file p).reads (end.Cut Truncated) kept ≡ Ok [] = within_reads p kept w.few ∙ rw none.1 (nothing_behind p (end.Cut Truncated) none.0) in
          absurd cc
    ]

one_zero : IsBytes (0 ∷ [])
one_zero zero = omega arith
one_zero (suc i) = let none : List ℕ = [] in omega (arith, get_or_past none i 0 (omega arith))

pub open_follows : (old new : Held) (piece : List ℕ) → old.fault ≡ None → new.fault ≡ None → Waits old.read old.kept → GoesOn old.read (old.kept ++ piece) new.kept new.read → IsBytes piece → (f : DecodeFault) → IsSettled old piece f → ⊥
open_follows old new piece old_none new_none w g fits f settled =
    let fits_none : IsBytes (piece ++ []) = rw (append-nil piece) fits in
    let fits_one : IsBytes (piece ++ 0 ∷ []) = IsBytes-append piece (0 ∷ []) fits one_zero in
    let goes = follows_read old.read new.read old.kept piece new.kept in
    let none = (goes [] (Err f) w g fits_none).1 (rw old_none at (settled [] fits_none)) in
    let one = (goes (0 ∷ []) (Err f) w g fits_one).1 (rw old_none at (settled (0 ∷ []) fits_one)) in
    open_waits new.read new.kept f g.waits (rw (append-nil new.kept) at none) one

-- ---- a new decoder

pub fresh_answers : (bytes : List ℕ) (answer : Answer) → ComesTo fresh bytes answer ↔ IsAnswer bytes answer
unfolding file
fresh_answers bytes (Ok c) = (λ h. subst (λ (d : List SectionTree). file.Spells d bytes) (sym h.2) h.1, λ h. (c, h, refl))
fresh_answers bytes (Err f) = (λ h. (h.0, omega (arith, h.1), h.2), λ h. (h.0, omega (arith, h.1), h.2))

-- ---- a fault is handed on

pub err_passes : {T : Type 0} (p : Progress) (bytes all : List ℕ) (r : Result T DecodeFault) (f g : DecodeFault) → bytes ≡ all → r ≡ Err g → g ≡ f → (f.reason ≡ Memory) ⊎ HasFault p bytes f → IfErr r (λ d. (d.reason ≡ Memory) ⊎ HasFault p all d)
err_passes p bytes all r f g same is e h = rw (is, e, ← same) h

-- A fault whatever follows is settled.
pub settled : (old : Held) (piece : List ℕ) (f : DecodeFault) → old.fault ≡ None → Waits old.read old.kept → (f.reason ≡ Memory) ⊎ HasFault old.read (old.kept ++ piece) f → (f.reason ≡ Memory) ⊎ IsSettled old piece f
settled old piece f none w (inl m) = inl m
settled old piece f none w (inr h) = inr (λ more fits.
    let all : (old.kept ++ piece) ++ more ≡ old.kept ++ (piece ++ more) = append_assoc old.kept piece more in
    let fits_all : IsBytes ((old.kept ++ piece) ++ more) = rw all (IsBytes-append old.kept (piece ++ more) w.bytes fits) in
    rw (none, ← all) (h more fits_all))

-- What holds of a decoder without a fault.
pub held_waits : (fault : Option DecodeFault) (p : Progress) (kept : List ℕ) → fault ≡ None → IsHeld fault p kept → Waits p kept
held_waits None p kept none h = h
held_waits (Some f) p kept none h = absurd cc

-- ---- the end of the input

finish_ok : (p : Progress) (kept : List ℕ) → Waits p kept → p.next ≡ nexts.Section → kept ≡ [] → ComesTo p (kept ++ []) (Ok p.sections)
finish_ok p kept w next none =
    let all : kept ++ [] ≡ kept = append-nil kept in
    let read : (rest_of_file p).reads (end.Cut Truncated) kept ≡ Ok [] = within_reads p kept w.few ∙ rw none (nothing_behind p (end.Cut Truncated) next) in
    rw all ([], (rest_lawful p).takes (end.Cut Truncated) kept [] w.bytes read, sym (append-nil p.sections))

finish_err : (p : Progress) (kept : List ℕ) → Waits p kept → ((p.next ≡ nexts.Section) × (kept ≡ []) → ⊥) → ComesTo p (kept ++ []) (Err (record { at = p.offset + length kept; reason = Truncated }))
finish_err p kept w more =
    let all : kept ++ [] ≡ kept = append-nil kept in
    let read : (rest_of_file p).reads (end.Cut Truncated) kept ≡ Err (flaw 0 Truncated) =
    elim (waits_read p kept w) [
      | inl k ↦ k
      | inr k ↦ absurd (more (k.0, k.1))
    ] in
    rw all (comes_fault p kept (p.offset + length kept) 0 Truncated w.bytes (omega arith) (rw read refl))

pub after_ok : (d : Held) (c : List SectionTree) → d.fault ≡ None → IsHeld d.fault d.read d.kept → d.read.next ≡ nexts.Section → d.kept ≡ [] → c ≡ d.read.sections → After d [] (Ok c)
after_ok d c none held next kept same = rw (none, same) (finish_ok d.read d.kept (held_waits d.fault d.read d.kept none held) next kept)

pub after_err : (d : Held) → d.fault ≡ None → IsHeld d.fault d.read d.kept → ((d.read.next ≡ nexts.Section) × (d.kept ≡ []) → ⊥) → After d [] (Err (record { at = d.read.offset + length d.kept; reason = Truncated }))
after_err d none held more = rw none (finish_err d.read d.kept (held_waits d.fault d.read d.kept none held) more)

limits_by : (n : Next) (p : Progress) → n ≡ nexts.Section → HasReadBy n p → p.offset ≤ MAX_FILE_BYTES → limit_fault p.sections ≡ None
unfolding file
limits_by nexts.Preamble p next h few = absurd cc
limits_by nexts.Section p next h few = spelled_within p.sections h.0 (omega (arith, h.2), h.1)

-- The sections that were read keep the limits.
pub held_within : (d : Held) → d.fault ≡ None → IsHeld d.fault d.read d.kept → d.read.next ≡ nexts.Section → limit_fault d.read.sections ≡ None
held_within d none held next =
    let w = held_waits d.fault d.read d.kept none held in
    limits_by d.read.next d.read next w.read (omega (arith, w.few))

holds_by : (n : Next) (p : Progress) → n ≡ nexts.Section → HasReadBy n p → list_all holds p.sections ≡ true
holds_by nexts.Preamble p next h = absurd cc
holds_by nexts.Section p next h = component_holds p.sections h.0 h.1

-- The sections that were read hold theirs.
pub held_holds : (d : Held) → d.fault ≡ None → IsHeld d.fault d.read d.kept → d.read.next ≡ nexts.Section → list_all holds d.read.sections ≡ true
held_holds d none held next = holds_by d.read.next d.read next (held_waits d.fault d.read d.kept none held).read

-- ---- a piece where no bytes are kept

pub goes_on_behind_none : (old new : Progress) (kept left piece rest : List ℕ) → kept ≡ [] → left ≡ kept ++ rest → GoesOn old piece rest new → GoesOn old (kept ++ piece) left new
goes_on_behind_none old new kept left piece rest none is h = rw (is, none) h
