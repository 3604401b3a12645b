-- Reading on: what was read so far, and what may stand behind it.
use Rattle.std.proofs.Common.{◌≡◌, ℕ, ◌+◌, ◌-◌, ◌≤◌, List, [], ◌∷◌, ◌++◌, length, Ok, refl, sym, ap, subst, ◌∙◌, append_assoc, append-nil, arith}
use Rattle.std.proofs.lemmas.List.{length-append}
use Rattle.cm_binary_grammar.specs.declared.fault.End.{End}
use Rattle.cm_binary_grammar.specs.declared.fault.ReadError.{ReadError}
use Rattle.cm_binary_grammar.specs.declared.fault.ReadError.TheVariants as errors
use Rattle.cm_binary_grammar.specs.Grammar.{Grammar, fixed}
use Rattle.cm_binary_grammar.specs.Whole.{SpellsEach, state_after}
use Rattle.cm_binary_grammar.proofs.Tools.{IsBytes-after, parts_behind, parts_more}
use Rattle.cm_binary_grammar.proofs.Laws.{fixed_lawful}
use Rattle.cm_binary_grammar.proofs.ReadingLaws.{to_end_more}
use Rattle.cm_binary_model.specs.Trees.{SectionTree}
use Rattle.cm_binary_model.specs.declared.limits.TheConstants.{COMPONENT_PREAMBLE, MAX_TYPES}
use Rattle.cm_binary_forms.specs.declared.fault.DecodeReason.{DecodeReason}
use Rattle.cm_binary_forms.specs.declared.fault.DecodeReason.TheVariants.{BadPreamble}
use Rattle.cm_binary_forms.specs.Sections.{section, sections, room_after}
use Rattle.cm_binary_forms.specs.File.{component}
use Rattle.cm_binary_forms.proofs.LawfulSections.{section_lawful, section_nonempty}
use Rattle.cm_binary.specs.declared.front.Next.{Next}
use Rattle.cm_binary.specs.declared.front.Next.TheVariants as nexts
use Rattle.cm_binary.specs.Progress.{Progress, from, behind, IsNext, Takes, StopsBy, Stops, StopsInside, with_sections, HasReadBy, HasRead, Reaches, room_behind}
use Rattle.cm_lemmas.proofs.Lists.{IsBytes}

-- ---- one thing

pub preamble_takes : (old : Progress) (e : End DecodeReason) (bytes rest : List ℕ) → old.next ≡ nexts.Preamble → IsBytes bytes → (fixed COMPONENT_PREAMBLE BadPreamble).reads e bytes ≡ Ok (tt {0}, rest) → Takes old bytes rest (record { next = nexts.Section; sections = old.sections; offset = old.offset + 8; room = old.room })
preamble_takes old e bytes rest first fits h =
    let t = (fixed_lawful COMPONENT_PREAMBLE BadPreamble).takes e bytes (tt {0}) rest fits h in
    record {
      taken = t.front;
      parts = t.parts;
      some = rw (t.spells) (omega arith);
      next = refl;
      is_next = rw first (t.spells, refl, refl);
      counted = rw (t.spells) refl;
    }

pub section_takes : (old new : Progress) (e : End DecodeReason) (bytes rest : List ℕ) (x : SectionTree) → old.next ≡ nexts.Section → IsBytes bytes → (section old.room).reads e bytes ≡ Ok (x, rest) → new.next ≡ nexts.Section → new.sections ≡ old.sections ++ x ∷ [] → new.room ≡ room_after old.room x → new.offset ≡ old.offset + (length bytes - length rest) → Takes old bytes rest new
section_takes old new e bytes rest x first fits h next more room offset =
    let t = (section_lawful old.room).takes e bytes x rest fits h in
    record {
      taken = t.front;
      parts = t.parts;
      some = section_nonempty old.room x t.front t.spells;
      next = next;
      is_next = rw first (x, t.spells, more, room);
      counted = omega (arith, offset, ap length t.parts, length-append t.front rest);
    }

pub rest_shorter : (room : ℕ) (e : End DecodeReason) (bytes rest : List ℕ) (x : SectionTree) → IsBytes bytes → (section room).reads e bytes ≡ Ok (x, rest) → length rest ≤ length bytes
rest_shorter room e bytes rest x fits h =
    let t = (section_lawful room).takes e bytes x rest fits h in
    omega (arith, ap length t.parts, length-append t.front rest)

-- ---- what was read was spelled

each_more : {R A S : Type 0} (g : S → Grammar R A) (next : S → A → S) (s : S) (xs : List A) (x : A) (front taken : List ℕ) → SpellsEach g next s xs front → (g (state_after next s xs)).Spells x taken → SpellsEach g next s (xs ++ x ∷ []) (front ++ taken)
each_more g next s [] x front taken h k = rw h (taken, [], k, refl, sym (append-nil taken))
each_more g next s (y ∷ ys) x front taken h k = (h.0, h.1 ++ taken, h.2, each_more g next (next s y) ys x h.1 taken h.3 k, ap (λ (b : List ℕ). b ++ taken) h.4 ∙ append_assoc h.0 h.1 taken)

state_more : {A S : Type 0} (next : S → A → S) (s : S) (xs : List A) (x : A) → state_after next s (xs ++ x ∷ []) ≡ next (state_after next s xs) x
state_more next s [] x = refl
state_more next s (y ∷ ys) x = state_more next (next s y) ys x

sound_first : (old new : Progress) (taken : List ℕ) → HasReadBy nexts.Preamble old → IsNext nexts.Preamble old taken new → new.offset ≡ old.offset + length taken → HasReadBy nexts.Section new
unfolding component sections
sound_first old new taken h k counted =
    let none : new.sections ≡ [] = k.1 ∙ ap (λ (p : Progress). p.sections) h in
    let room : new.room ≡ MAX_TYPES = k.2 ∙ ap (λ (p : Progress). p.room) h in
    let start : old.offset ≡ 0 = ap (λ (p : Progress). p.offset) h in
    (taken, rw none (tt {0}, taken, [], k.0, refl, sym (append-nil taken)), omega arith, room ∙ sym (ap room_behind none))

sound_more : (old new : Progress) (taken : List ℕ) → HasReadBy nexts.Section old → IsNext nexts.Section old taken new → new.offset ≡ old.offset + length taken → HasReadBy nexts.Section new
unfolding component sections
sound_more old new taken (front, spelled, offset, room) (x, spells, more, left) counted =
    let each = each_more section room_after MAX_TYPES old.sections x spelled.2 taken spelled.4 (subst (λ (r : ℕ). (section r).Spells x taken) room spells) in
    (front ++ taken, rw more (spelled.0, spelled.1, spelled.2 ++ taken, spelled.3, each, ap (λ (b : List ℕ). b ++ taken) spelled.5 ∙ append_assoc spelled.1 spelled.2 taken), omega (arith, length-append front taken), left ∙ rw (room, more) (sym (state_more room_after MAX_TYPES old.sections x)))

-- By what comes next, which is a variable here.
abbrev SoundBy : Next → Progress → Progress → List ℕ → Type 0
SoundBy n old new taken = HasReadBy n old → IsNext n old taken new → new.offset ≡ old.offset + length taken → HasReadBy nexts.Section new

sound_by : (n : Next) (old new : Progress) (taken : List ℕ) → SoundBy n old new taken
sound_by nexts.Preamble old new taken = sound_first old new taken
sound_by nexts.Section old new taken = sound_more old new taken

takes_sound : (old new : Progress) (bytes rest : List ℕ) → Takes old bytes rest new → HasRead old → HasRead new
takes_sound old new bytes rest t h = subst (λ (n : Next). HasReadBy n new) (sym t.next) (sound_by old.next old new t.taken h t.is_next t.counted)

-- ---- reading on comes to the same

same_first : (old new : Progress) (e : End DecodeReason) (taken more : List ℕ) → HasReadBy nexts.Preamble old → IsNext nexts.Preamble old taken new → with_sections old.sections (component.reads e (taken ++ more)) ≡ with_sections new.sections ((sections new.room).reads e more)
unfolding component
same_first old new e taken more h k =
    let room : new.room ≡ MAX_TYPES = k.2 ∙ ap (λ (p : Progress). p.room) h in
    rw (k.1, room, (fixed_lawful COMPONENT_PREAMBLE BadPreamble).again e (tt {0}) taken more k.0) refl

same_more : (old new : Progress) (e : End DecodeReason) (taken more : List ℕ) → IsBytes (taken ++ more) → IsNext nexts.Section old taken new → with_sections old.sections ((sections old.room).reads e (taken ++ more)) ≡ with_sections new.sections ((sections new.room).reads e more)
unfolding sections
same_more old new e taken more fits (x, spells, grown, left) =
    let some = section_nonempty old.room x taken spells in
    let read = (section_lawful old.room).again e x taken more spells in
    rw (grown, left) (sym (to_end_more section room_after section_lawful section_nonempty old.sections old.room e (taken ++ more) x more _ fits (omega (arith, length-append taken more)) read refl))

abbrev SameBy : Next → Progress → Progress → End DecodeReason → List ℕ → List ℕ → Type 0
SameBy n old new e taken more = HasReadBy n old → IsNext n old taken new → IsBytes (taken ++ more) → with_sections old.sections ((from n old.room).reads e (taken ++ more)) ≡ with_sections new.sections ((sections new.room).reads e more)

same_by : (n : Next) (old new : Progress) (e : End DecodeReason) (taken more : List ℕ) → SameBy n old new e taken more
same_by nexts.Preamble old new e taken more = λ h k fits. same_first old new e taken more h k
same_by nexts.Section old new e taken more = λ h k fits. same_more old new e taken more fits k

pub takes_same : (old new : Progress) (bytes rest : List ℕ) → Takes old bytes rest new → HasRead old → (e : End DecodeReason) (more : List ℕ) → IsBytes (bytes ++ more) → with_sections old.sections ((behind old).reads e (bytes ++ more)) ≡ with_sections new.sections ((behind new).reads e (rest ++ more))
takes_same old new bytes rest t h e more fits =
    let parts : bytes ++ more ≡ t.taken ++ (rest ++ more) = parts_more bytes t.taken rest more t.parts in
    let fits_parts = subst IsBytes parts fits in
    let one = same_by old.next old new e t.taken (rest ++ more) h t.is_next fits_parts in
    rw (parts, t.next) one

-- ---- several things

pub reaches_self : (p : Progress) (bytes : List ℕ) → Reaches p bytes bytes p
reaches_self p bytes = record { taken = []; parts = refl; counted = omega arith; sound = λ h. h; same = λ h e more fits. refl }

pub reaches_more : (old mid new : Progress) (bytes rest rest' : List ℕ) → Reaches old bytes rest mid → Takes mid rest rest' new → Reaches old bytes rest' new
reaches_more old mid new bytes rest rest' r t = record {
  taken = r.taken ++ t.taken;
  parts = parts_behind bytes r.taken rest t.taken rest' r.parts t.parts;
  counted = omega (arith, r.counted, t.counted, length-append r.taken t.taken);
  sound = λ h. takes_sound mid new rest rest' t (r.sound h);
  same = λ h e more fits.
      let behind_first = IsBytes-after (bytes ++ more) r.taken (rest ++ more) (parts_more bytes r.taken rest more r.parts) fits in
      r.same h e more fits ∙ takes_same mid new rest rest' t (r.sound h) e more behind_first;
}

-- ---- where reading stops

stops_inside_by : (n : Next) (room : ℕ) (e : End DecodeReason) (bytes : List ℕ) (error : ReadError DecodeReason) → IsBytes bytes → StopsBy n room e bytes error → StopsInside bytes error
stops_inside_by n room e bytes errors.Memory fits h = tt {0}
stops_inside_by nexts.Preamble room e bytes (errors.Fault f) fits h = (fixed_lawful COMPONENT_PREAMBLE BadPreamble).within e bytes f fits h
stops_inside_by nexts.Section room e bytes (errors.Fault f) fits h = (section_lawful room).within e bytes f fits h

pub stops_inside : (p : Progress) (e : End DecodeReason) (bytes taken rest : List ℕ) (error : ReadError DecodeReason) → IsBytes bytes → bytes ≡ taken ++ rest → Stops p e rest error → StopsInside rest error
stops_inside p e bytes taken rest error fits parts h = stops_inside_by p.next p.room e rest error (IsBytes-after bytes taken rest parts fits) h
