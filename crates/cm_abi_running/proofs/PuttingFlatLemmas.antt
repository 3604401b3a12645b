-- Puts of core values, run one after another.
use Rattle.std.proofs.Common.{◌≡◌, ℕ, zero, suc, ◌+◌, ◌*◌, ◌-◌, ◌<◌, ◌≤◌, ◌==◌, List, [], ◌∷◌, ◌++◌, length, drop, drop-cons, add-one, map, get_or, Vec, Global, refl, sym, ap, subst, ◌∙◌, arith}
use Rattle.std.proofs.lemmas.Bool.Decides.{nat_tests}
use Rattle.std.specs.Prelude.{true}
use Rattle.std.specs.declared.sync.Arc.{Arc}
use Rattle.cm_types.specs.declared.core_value.CoreValue.{CoreValue}
use Rattle.cm_abi_model.specs.Numbers.{wrapped_at}
use Rattle.cm_abi_model.specs.Receives.{put as put_in}
use Rattle.cm_abi_model.specs.Stores.{poke}
use Rattle.cm_abi_programs.specs.CodedSlots.{case_of, case_slots_from, slot_of, slots_in}
use Rattle.cm_abi_programs.specs.SlotPuts.{SlotPut, SlotPuts, CaseSlotPuts, no_slots, each_slot, cases_slot}
use Rattle.cm_abi_programs.specs.declared.slots.CaseSlotPuts.{CaseSlotPuts as CodedCase, out-CaseSlotPuts}
use Rattle.cm_abi_programs.specs.declared.slots.SlotPut.{SlotPut as CodedSlot}
use Rattle.cm_abi_programs.specs.declared.slots.SlotPut.TheViews as view
use Rattle.cm_abi_programs.proofs.SlotForms.{case_is, seen_Cases, seen_Each}
use Rattle.cm_abi_running.specs.Passing.{PassedOn, case_passed, nothing_passed, number_passed, passed_each, passed_then}
use Rattle.cm_abi_store.specs.WalkLaws.{poke_both}
use Rattle.cm_abi_store.specs.declared.target.Next.{Next}
use Rattle.cm_abi_running.specs.Copying.{Copying}
use Rattle.cm_abi_running.specs.PutsReady.{seen_from}
use Rattle.cm_abi_running.specs.SlotPutsReady.{AreCaseSlotsWithin, AreEachSlotReady, AreSlotsReady, AreSlotsWithin, IsCaseSlotReady, IsSlotReady, IsSlotWithin}
use Rattle.cm_abi_running.specs.SlotsPassed.{PassesOn, SlotLiesWithin, SlotsLieWithin, passing, passing_one}

-- ---- one behind the other

-- what is still to be passed on of all that is, where so far these slots and this memory became
-- those
pub record StillPasses (rest total : PassedOn) (old_slots now_slots old now : List ℕ) : Type 0 where
  pub numbers : poke rest.numbers now_slots ≡ poke total.numbers old_slots
  pub slots_stay : length now_slots ≡ length old_slots
  pub bytes : poke rest.bytes now ≡ poke total.bytes old
  pub stays : length now ≡ length old
  pub part : rest.part ≡ total.part
  pub handle : rest.handle ≡ total.handle

all_left : (a : PassedOn) (s m : List ℕ) → StillPasses a a s s m m
all_left a s m = record { numbers = refl; slots_stay = refl; bytes = refl; stays = refl; part = refl; handle = refl }

module _ (a : PassedOn) (f : ℕ → ℕ → PassedOn) (after : Next) (now_slots new_slots now new : List ℕ) (w : PassesOn a after now_slots new_slots now new) where
  then_same : {A : Type 0} (F : PassedOn → A) → F (f after.part after.handle) ≡ F (f a.part a.handle)
  then_same F = ap (λ j. F (f j after.handle)) w.part ∙ ap (λ j. F (f a.part j)) w.handle

  then_numbers : poke (f after.part after.handle).numbers new_slots ≡ poke (passed_then a f).numbers now_slots
  then_numbers =
      then_same (λ r. poke r.numbers new_slots)
      ∙ ap (λ m. poke (f a.part a.handle).numbers m) w.slots
      ∙ sym (poke_both a.numbers (f a.part a.handle).numbers now_slots)

  then_bytes : poke (f after.part after.handle).bytes new ≡ poke (passed_then a f).bytes now
  then_bytes =
      then_same (λ r. poke r.bytes new)
      ∙ ap (λ m. poke (f a.part a.handle).bytes m) w.stored
      ∙ sym (poke_both a.bytes (f a.part a.handle).bytes now)

  one_less : (total : PassedOn) (old_slots old : List ℕ) → StillPasses (passed_then a f) total old_slots now_slots old now → StillPasses (f after.part after.handle) total old_slots new_slots old new
  one_less total old_slots old left =
      record {
        numbers = then_numbers ∙ left.numbers;
        slots_stay = w.slots_stay ∙ left.slots_stay;
        bytes = then_bytes ∙ left.bytes;
        stays = w.stays ∙ left.stays;
        part = then_same (λ r. r.part) ∙ left.part;
        handle = then_same (λ r. r.handle) ∙ left.handle;
      }

  both_pass : (last : Next) (end_slots end : List ℕ) → PassesOn (f after.part after.handle) last new_slots end_slots new end → PassesOn (passed_then a f) last now_slots end_slots now end
  both_pass last end_slots end x =
      record {
        slots = x.slots ∙ then_numbers;
        slots_stay = x.slots_stay ∙ w.slots_stay;
        stored = x.stored ∙ then_bytes;
        stays = x.stays ∙ w.stays;
        part = x.part ∙ then_same (λ r. r.part);
        handle = x.handle ∙ then_same (λ r. r.handle);
      }

none_left : (total : PassedOn) (after : Next) (old_slots now_slots old now : List ℕ) → StillPasses (nothing_passed after.part after.handle) total old_slots now_slots old now → PassesOn total after old_slots now_slots old now
none_left total after old_slots now_slots old now left =
    record { slots = left.numbers; slots_stay = left.slots_stay; stored = left.bytes; stays = left.stays; part = left.part; handle = left.handle }

-- ---- puts in order

-- these puts are still to be run
pub record SlotsLeft (c : Copying) (given : List CoreValue) (cs : List CodedSlot) (s : ℕ) (total : PassedOn) (next : Next) (old_slots now_slots old now : List ℕ) : Type 0 where
  pub ready : AreSlotsReady (length old) c given (slots_in cs) s next.part next.handle
  pub left : StillPasses (passing c given (slots_in cs) s next.part next.handle) total old_slots now_slots old now

pub slots_start : (c : Copying) (given : List CoreValue) (cs : List CodedSlot) (s : ℕ) (next : Next) (slots m : List ℕ) → AreSlotsReady (length m) c given (slots_in cs) s next.part next.handle
    → SlotsLeft c given cs s (passing c given (slots_in cs) s next.part next.handle) next slots slots m m
slots_start c given cs s next slots m ready = record { ready = ready; left = all_left _ slots m }

split : (cs : List CodedSlot) (i : ℕ) (x : CodedSlot) → i < length cs → x ≡ get_or cs i x → drop i cs ≡ x ∷ drop (i + 1) cs
split cs i x lt is = rw (add-one, drop-cons cs i x lt, ← is) refl

module _ (c : Copying) (given : List CoreValue) (cs : List CodedSlot) (i s : ℕ) (x : CodedSlot) (total : PassedOn) (next : Next) (old_slots now_slots old now : List ℕ) (lt : i < length cs) (is : x ≡ get_or cs i x) where
  one_left : SlotsLeft c given (drop i cs) s total next old_slots now_slots old now → SlotsLeft c given (x ∷ drop (i + 1) cs) s total next old_slots now_slots old now
  one_left = subst (λ ys. SlotsLeft c given ys s total next old_slots now_slots old now) (split cs i x lt is)

  pub one_ready : SlotsLeft c given (drop i cs) s total next old_slots now_slots old now → IsSlotReady (length now) c given (slot_of x) s next.part next.handle
  one_ready all =
      let l = one_left all in
      subst (λ n. IsSlotReady n c given (slot_of x) s next.part next.handle) (sym l.left.stays) l.ready.0

  pub one_lies : SlotsLeft c given (drop i cs) s total next old_slots now_slots old now → SlotsLieWithin (slots_in cs) s (length old_slots) → SlotLiesWithin (slot_of x) s (length now_slots)
  one_lies all lie = record { size = lie.size; within = go cs i lt is lie.within; room = rw all.left.slots_stay lie.room }
    where
      go : (cs : List CodedSlot) (i : ℕ) → i < length cs → x ≡ get_or cs i x → AreSlotsWithin lie.size (slots_in cs) → IsSlotWithin lie.size (slot_of x)
      go [] i lt is h = absurd (omega (arith, lt))
      go (y ∷ cs) zero lt is h = subst (λ r. IsSlotWithin lie.size (slot_of r)) (sym is) h.0
      go (y ∷ cs) (suc i) lt is h = go cs i (omega (arith, lt)) is h.1

  pub slots_turn : SlotsLeft c given (drop i cs) s total next old_slots now_slots old now → (after : Next) (new_slots new : List ℕ) → PassesOn (passing_one c given (slot_of x) s next.part next.handle) after now_slots new_slots now new
      → SlotsLeft c given (drop (i + 1) cs) s total after old_slots new_slots old new
  slots_turn all after new_slots new w =
      let l = one_left all in
      let a = passing_one c given (slot_of x) s next.part next.handle in
      record {
        ready = subst (λ j. AreSlotsReady (length old) c given (slots_in (drop (i + 1) cs)) s after.part j) (sym w.handle)
            (subst (λ j. AreSlotsReady (length old) c given (slots_in (drop (i + 1) cs)) s j a.handle) (sym w.part) l.ready.1);
        left = one_less a (passing c given (slots_in (drop (i + 1) cs)) s) after now_slots new_slots now new w total old_slots old l.left;
      }

pub slots_end : (c : Copying) (given : List CoreValue) (cs : List CodedSlot) (i s : ℕ) (total : PassedOn) (next : Next) (old_slots now_slots old now : List ℕ) → length cs ≤ i
    → SlotsLeft c given (drop i cs) s total next old_slots now_slots old now → PassesOn total next old_slots now_slots old now
slots_end c given cs i s total next old_slots now_slots old now past all =
    let l : SlotsLeft c given [] s total next old_slots now_slots old now = subst (λ ys. SlotsLeft c given ys s total next old_slots now_slots old now) (drop-past cs i past) all in
    none_left total next old_slots now_slots old now l.left
  where
    drop-past : (xs : List CodedSlot) (i : ℕ) → length xs ≤ i → drop i xs ≡ []
    drop-past [] zero past = refl
    drop-past [] (suc i) past = refl
    drop-past (x ∷ xs) zero past = absurd (omega (arith, past))
    drop-past (x ∷ xs) (suc i) past = drop-past xs i (omega (arith, past))

-- ---- values in a row

-- so many values are still to be passed on
pub record SlotRowLeft (c : Copying) (given : List CoreValue) (cs : SlotPuts) (d n s : ℕ) (total : PassedOn) (next : Next) (old_slots now_slots old now : List ℕ) : Type 0 where
  pub ready : AreEachSlotReady (AreSlotsReady (length old) c given cs) (passing c given cs) d n s next.part next.handle
  pub left : StillPasses (passed_each (passing c given cs) d n s next.part next.handle) total old_slots now_slots old now

module _ (c : Copying) (given : List CoreValue) (cs : SlotPuts) (d n : ℕ) where
  pub row_start : (s : ℕ) (next : Next) (slots m : List ℕ) → AreEachSlotReady (AreSlotsReady (length m) c given cs) (passing c given cs) d n s next.part next.handle
      → SlotRowLeft c given cs d (n - 0) s (passed_each (passing c given cs) d n s next.part next.handle) next slots slots m m
  row_start s next slots m ready =
      subst (λ j. SlotRowLeft c given cs d j s (passed_each (passing c given cs) d n s next.part next.handle) next slots slots m m) {x = n} {y = n - 0} (omega arith)
      (record { ready = ready; left = all_left _ slots m })

  module _ (i s : ℕ) (total : PassedOn) (next : Next) (old_slots now_slots old now : List ℕ) where
    next_left : i < n → SlotRowLeft c given cs d (n - i) s total next old_slots now_slots old now → SlotRowLeft c given cs d (suc (n - (i + 1))) s total next old_slots now_slots old now
    next_left lt = subst (λ j. SlotRowLeft c given cs d j s total next old_slots now_slots old now) {x = n - i} {y = suc (n - (i + 1))} (omega (arith, lt))

    pub next_ready : i < n → SlotRowLeft c given cs d (n - i) s total next old_slots now_slots old now → AreSlotsReady (length now) c given cs s next.part next.handle
    next_ready lt all =
        let l = next_left lt all in
        subst (λ m. AreSlotsReady m c given cs s next.part next.handle) (sym l.left.stays) l.ready.0

    pub row_turn : i < n → SlotRowLeft c given cs d (n - i) s total next old_slots now_slots old now → (after : Next) (new_slots new : List ℕ) → PassesOn (passing c given cs s next.part next.handle) after now_slots new_slots now new
        → SlotRowLeft c given cs d (n - (i + 1)) (s + d) total after old_slots new_slots old new
    row_turn lt all after new_slots new w =
        let l = next_left lt all in
        let a = passing c given cs s next.part next.handle in
        let R = λ (j k : ℕ). AreEachSlotReady (AreSlotsReady (length old) c given cs) (passing c given cs) d (n - (i + 1)) (s + d) j k in
        record {
          ready = subst (λ k. R after.part k) (sym w.handle) (subst (λ j. R j a.handle) (sym w.part) l.ready.1);
          left = one_less a (passed_each (passing c given cs) d (n - (i + 1)) (s + d)) after now_slots new_slots now new w total old_slots old l.left;
        }

    pub row_end : n ≤ i → SlotRowLeft c given cs d (n - i) s total next old_slots now_slots old now → PassesOn total next old_slots now_slots old now
    row_end past all =
        let l = subst (λ j. SlotRowLeft c given cs d j s total next old_slots now_slots old now) {x = n - i} {y = 0} (omega (arith, past)) all in
        none_left total next old_slots now_slots old now l.left

-- a row of values of which nothing is passed on
pub empty_row : (c : Copying) (given : List CoreValue) (cs : List CodedSlot) (d n s : ℕ) (next : Next) (slots m : List ℕ) → (length cs == 0) ≡ true
    → PassesOn (passed_each (passing c given (slots_in cs)) d n s next.part next.handle) next slots slots m m
empty_row c given [] d n s next slots m none =
    subst (λ a. PassesOn a next slots slots m m) (sym (none_row n s)) (record { slots = refl; slots_stay = refl; stored = refl; stays = refl; part = refl; handle = refl })
  where
    none_row : (n s : ℕ) → passed_each (passing c given no_slots) d n s next.part next.handle ≡ nothing_passed next.part next.handle
    none_row zero s = refl
    none_row (suc n) s = none_row n (s + d)
empty_row c given (x ∷ cs) d n s next slots m none = absurd (some (length cs) none)
  where
    some : (m : ℕ) → (suc m == 0) ≡ true → ⊥
    some m is = grind (arith, nat_tests, is)

-- ---- each form of a put

module _ (x : CodedSlot) where
  pub form_Each : (at d n : ℕ) (cs : Arc (Vec CodedSlot Global) Global) (items : List CodedSlot) → x ≡ view.Each at d n cs → items ≡ cs.value.items → slot_of x ≡ each_slot at d n (slots_in items)
  form_Each at d n cs items is same = ap slot_of is ∙ seen_Each at d n cs ∙ ap (λ xs. each_slot at d n (slots_in xs)) (sym same)

  pub form_Cases : (at : ℕ) (cs : Arc (Vec CodedCase Global) Global) → x ≡ view.Cases at cs → slot_of x ≡ cases_slot at (case_slots_from (map case_of cs.value.items))
  form_Cases at cs is = ap slot_of is ∙ seen_Cases at cs

pub lies_as : (a b : SlotPut) (s slots : ℕ) → a ≡ b → SlotLiesWithin a s slots → SlotLiesWithin b s slots
lies_as a b s slots is = subst (λ y. SlotLiesWithin y s slots) is

pub ready_as : (n : ℕ) (c : Copying) (given : List CoreValue) (a b : SlotPut) (s k h : ℕ) → a ≡ b → IsSlotReady n c given a s k h → IsSlotReady n c given b s k h
ready_as n c given a b s k h is = subst (λ y. IsSlotReady n c given y s k h) is

pub passes_as : (c : Copying) (given : List CoreValue) (a b : SlotPut) (s k h : ℕ) (after : Next) (old_slots new_slots old new : List ℕ) → a ≡ b
    → PassesOn (passing_one c given b s k h) after old_slots new_slots old new → PassesOn (passing_one c given a s k h) after old_slots new_slots old new
passes_as c given a b s k h after old_slots new_slots old new is = subst (λ y. PassesOn (passing_one c given y s k h) after old_slots new_slots old new) (sym is)

-- ---- cases

case_at : (c : Copying) (given : List CoreValue) (cs : List CodedCase) (i s k h : ℕ) (x : CodedCase) → i < length cs → x ≡ get_or cs i x
    → case_passed (seen_from c) c.given given (case_slots_from (map case_of cs)) i s k h ≡ passing c given (case_of x) s k h
case_at c given [] i s k h x lt is = absurd (omega (arith, lt))
case_at c given (y ∷ cs) zero s k h x lt is = ap (λ r. passing c given (case_of r) s k h) (sym is)
case_at c given (y ∷ cs) (suc i) s k h x lt is = case_at c given cs i s k h x (omega (arith, lt)) is

case_past : (c : Copying) (given : List CoreValue) (cs : List CodedCase) (i s k h : ℕ) → length cs ≤ i
    → case_passed (seen_from c) c.given given (case_slots_from (map case_of cs)) i s k h ≡ nothing_passed k h
case_past c given [] i s k h past = refl
case_past c given (y ∷ cs) zero s k h past = absurd (omega (arith, past))
case_past c given (y ∷ cs) (suc i) s k h past = case_past c given cs i s k h (omega (arith, past))

case_ready : (n : ℕ) (c : Copying) (given : List CoreValue) (cs : List CodedCase) (i s k h : ℕ) (x : CodedCase) → i < length cs → x ≡ get_or cs i x
    → IsCaseSlotReady n c given (case_slots_from (map case_of cs)) i s k h → AreSlotsReady n c given (case_of x) s k h
case_ready n c given [] i s k h x lt is r = absurd (omega (arith, lt))
case_ready n c given (y ∷ cs) zero s k h x lt is r = subst (λ z. AreSlotsReady n c given (case_of z) s k h) (sym is) r
case_ready n c given (y ∷ cs) (suc i) s k h x lt is r = case_ready n c given cs i s k h x (omega (arith, lt)) is r

case_lies : (m : ℕ) (cs : List CodedCase) (i : ℕ) (x : CodedCase) → i < length cs → x ≡ get_or cs i x → AreCaseSlotsWithin m (case_slots_from (map case_of cs)) → AreSlotsWithin m (case_of x)
case_lies m [] i x lt is h = absurd (omega (arith, lt))
case_lies m (y ∷ cs) zero x lt is h = subst (λ r. AreSlotsWithin m (case_of r)) (sym is) h.0
case_lies m (y ∷ cs) (suc i) x lt is h = case_lies m cs i x (omega (arith, lt)) is h.1

module _ (c : Copying) (given : List CoreValue) (x : CodedSlot) (at : ℕ) (cs : Arc (Vec CodedCase Global) Global) (is : x ≡ view.Cases at cs)
    (s i : ℕ) (next : Next) (s0 s1 m0 : List ℕ) (number : i ≡ wrapped_at 4 given (s + at)) where
  abbrev CS : CaseSlotPuts
  CS = case_slots_from (map case_of cs.value.items)

  module _ (y : CodedCase) (items : List CodedSlot) (lt : i < length cs.value.items) (there : y ≡ get_or cs.value.items i y) (same : items ≡ (out-CaseSlotPuts y).puts.value.items) where
    items_are : case_of y ≡ slots_in items
    items_are = case_is y ∙ ap slots_in (sym same)

    pub carried_lie : length s1 ≡ length s0 → SlotLiesWithin (slot_of x) s (length s0) → SlotsLieWithin (slots_in items) (s + at + 1) (length s1)
    carried_lie stays lies =
        let h = lies_as (slot_of x) (cases_slot at CS) s (length s0) (form_Cases x at cs is) lies in
        record {
          size = h.within.0;
          within = subst (AreSlotsWithin h.within.0) items_are (case_lies h.within.0 cs.value.items i y lt there h.within.2);
          room = omega (arith, h.within.1, h.room, stays);
        }

    pub carried_ready : IsSlotReady (length m0) c given (slot_of x) s next.part next.handle → AreSlotsReady (length m0) c given (slots_in items) (s + at + 1) next.part next.handle
    carried_ready ready =
        let r : IsSlotReady (length m0) c given (cases_slot at CS) s next.part next.handle = ready_as (length m0) c given (slot_of x) (cases_slot at CS) s next.part next.handle (form_Cases x at cs is) ready in
        let one = case_ready (length m0) c given cs.value.items i (s + at + 1) next.part next.handle y lt there (subst (λ j. IsCaseSlotReady (length m0) c given CS j (s + at + 1) next.part next.handle) (sym number) r) in
        subst (λ ps. AreSlotsReady (length m0) c given ps (s + at + 1) next.part next.handle) items_are one

  cases_pass : s1 ≡ poke (put_in (s + at) (wrapped_at 4 given (s + at))) s0 → length s1 ≡ length s0
      → (after : Next) (s2 m2 : List ℕ) → PassesOn (case_passed (seen_from c) c.given given CS i (s + at + 1) next.part next.handle) after s1 s2 m0 m2
      → PassesOn (passing_one c given (slot_of x) s next.part next.handle) after s0 s2 m0 m2
  cases_pass first stays after s2 m2 w =
      passes_as c given (slot_of x) (cases_slot at CS) s next.part next.handle after s0 s2 m0 m2 (form_Cases x at cs is)
      (both_pass (number_passed (s + at) (wrapped_at 4 given (s + at)) next.part next.handle)
      (case_passed (seen_from c) c.given given CS (wrapped_at 4 given (s + at)) (s + at + 1)) next s0 s1 m0 m0
      (record { slots = first; slots_stay = stays; stored = refl; stays = refl; part = refl; handle = refl }) after s2 m2
      (subst (λ j. PassesOn (case_passed (seen_from c) c.given given CS j (s + at + 1) next.part next.handle) after s1 s2 m0 m2) number w))

  pub case_passes : (y : CodedCase) (items : List CodedSlot) → i < length cs.value.items → y ≡ get_or cs.value.items i y → items ≡ (out-CaseSlotPuts y).puts.value.items
      → s1 ≡ poke (put_in (s + at) (wrapped_at 4 given (s + at))) s0 → length s1 ≡ length s0
      → (after : Next) (s2 m2 : List ℕ) → PassesOn (passing c given (slots_in items) (s + at + 1) next.part next.handle) after s1 s2 m0 m2
      → PassesOn (passing_one c given (slot_of x) s next.part next.handle) after s0 s2 m0 m2
  case_passes y items lt there same first stays after s2 m2 w =
      cases_pass first stays after s2 m2
      (subst (λ a. PassesOn a after s1 s2 m0 m2)
      (sym (case_at c given cs.value.items i (s + at + 1) next.part next.handle y lt there ∙ ap (λ ps. passing c given ps (s + at + 1) next.part next.handle) (items_are y items lt there same))) w)

  pub bare_passes : length cs.value.items ≤ i → s1 ≡ poke (put_in (s + at) (wrapped_at 4 given (s + at))) s0 → length s1 ≡ length s0
      → PassesOn (passing_one c given (slot_of x) s next.part next.handle) next s0 s1 m0 m0
  bare_passes past first stays =
      cases_pass first stays next s1 m0
      (subst (λ a. PassesOn a next s1 s1 m0 m0) (sym (case_past c given cs.value.items i (s + at + 1) next.part next.handle past))
      (record { slots = refl; slots_stay = refl; stored = refl; stays = refl; part = refl; handle = refl }))
