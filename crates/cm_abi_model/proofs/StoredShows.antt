-- What is stored of a value shows it.
use Rattle.std.proofs.Common.{◌≡◌, ℕ, zero, suc, ℤ, pos, negsuc, ◌+◌, ◌-◌, ◌*◌, ◌%◌, ◌^◌, ◌<◌, ◌≤◌, Bool, true, false, List, [], ◌∷◌, ◌++◌, length, Some, slice_index, not, ◌==◌, refl, sym, ap, subst, ◌∙◌, arith, length-append}
use Rattle.std.proofs.Common.{inl, inr, ◌⊎◌}
use Rattle.cm_abi_model.specs.declared.encoding.StringEncoding.{StringEncoding}
use Rattle.cm_abi_model.specs.declared.encoding.StringEncoding.TheVariants as encoding
use Rattle.cm_abi_model.specs.Later.{IsLater}
use Rattle.cm_abi_model.specs.Texts.{utf16}
use Rattle.cm_abi_model.proofs.NoStrings.{denoted_alike, read_as}
use Rattle.cm_abi_model.proofs.ReceivedStays.{received_stays}
use Rattle.std.proofs.lemmas.Int.{ints}
use Rattle.std.proofs.Math.Nat.{mod-eq_of_lt, pow-le-pow_right}
use Rattle.std.specs.Prelude.{nat_lt, if◌then◌else◌, neg_ℤ, ◌≤ℤ◌, ◌<ℤ◌}
use Rattle.std.proofs.lemmas.Bool.{and_parts, leb-true, ltb-true, ltb-false, lt-ltb, le-ltb, cases_lt}
use Rattle.std.proofs.lemmas.Bool.Decides.{nat_tests}
use Rattle.cm_types.specs.declared.resource.ResourceId.{ResourceId}
use Rattle.cm_types.specs.Spellable.{is_spellable, are_spellable, are_spellable_payloads}
use Rattle.cm_types.specs.Types.{Ty, Fields, Cases, Width, bits_8, bits_16, bits_32, bits_64, width_bytes, bool, signed, unsigned, char, string, list, fixed_list, fields, cases, flags, own, borrow, no_fields, field, no_cases, plain, carrying}
use Rattle.cm_types.specs.Values.{Val, Vals, HandleValue, no_vals, val, truth, signed_number, number, scalar, text, elements, parts, bare, bearing, flag_set, handle, count_of, HasType, HaveTypes, IsCarriedCase, IsPlainCase, AllVals, FitsSignedWidth}
use Rattle.cm_handles.specs.Handles.{Handles, IsSoundHandles, handle_at}
use Rattle.cm_handles.specs.declared.handle.Handle.{Handle}
use Rattle.cm_handles.specs.declared.handle.HandleKind.{HandleKind}
use Rattle.cm_handles.specs.declared.handle.HandleKind.TheVariants.{Owned, Borrowed}
use Rattle.cm_layout.specs.Sizes.{align_of, size_of, case_count, discriminant_size, flags_size, payload_offset}
use Rattle.cm_abi_model.specs.Numbers.{number_at, as_signed, slot_at, wrapped_at}
use Rattle.cm_abi_model.specs.FlatShows.{FlatShows, FlatShowFields, FlatShowsPayload, width_of}
use Rattle.cm_types.specs.declared.core_value.CoreValue.{CoreValue}
use Rattle.cm_abi_model.specs.Parts.{Part, element_part, parts_in, parts_in_fields, parts_in_payload, parts_each, part_count, part_count_each, handle_count, handle_count_each, CasesFit, AllCasesFit}
use Rattle.cm_abi_model.specs.Receives.{HandleLeaf, owned_leaf, borrowed_leaf, Receives, Serves, put, SlotsHold, slot_bytes, slots_of, slots_of_fields, slots_of_payload, behind, behind_each, behind_fields, behind_payload, leaves_in, leaves_in_fields, leaves_in_payload, leaves_each, AllStand, StandsForBorrow, NoneImplemented, call_bytes}
use Rattle.cm_abi_model.specs.Regions.{ArePlaced}
use Rattle.cm_abi_model.specs.Requests.{HaveNoString, IsStored, stored_charset, text_bytes, text_units, is_spilled, tuple_of}
use Rattle.cm_abi_model.specs.Denotes.{Denotes}
use Rattle.cm_abi_model.specs.Shows.{Shows, ShowFields, ShowsPayload, ShowEach, ShowsHandle, ShowsOwned}
use Rattle.cm_abi_model.specs.Stores.{Placed, Given, place_of, number_of, placed, bytes_of, from_signed, pointer_bytes, store_each, stored, stored_fields, stored_payload, Holds}
use Rattle.cm_abi_model.specs.Views.{View, Way}
use Rattle.cm_abi_model.proofs.StoredBytes.{holds_split, number_held, text_shown, units_fit}
use Rattle.cm_handles.proofs.SoundHandles.{within_slots}

-- ---- how many parts and handles

abbrev Counted : Ty → Val → Type 0
Counted t v = (length (parts_in t v) ≡ part_count v) × (length (leaves_in t v) ≡ handle_count v)

counted_each : (t : Ty) → ((v : Val) → HasType t v → Counted t v) → (vs : Vals) → AllVals (HasType t) vs
    → (length (parts_each (parts_in t) vs) ≡ part_count_each vs) × (length (leaves_each (leaves_in t) vs) ≡ handle_count_each vs)
counted_each t one no_vals typed = (refl, refl)
counted_each t one (val v vs) typed =
    let head = one v typed.0 in
    let tail = counted_each t one vs typed.1 in (
      omega (arith, length-append (parts_in t v) (parts_each (parts_in t) vs), head.0, tail.0),
      omega (arith, length-append (leaves_in t v) (leaves_each (leaves_in t) vs), head.1, tail.1),
    )

mutual
  pub counted : (t : Ty) (v : Val) → HasType t v → Counted t v
  counted bool (truth b) h = (refl, refl)
  counted (signed w) (signed_number z) h = (refl, refl)
  counted (unsigned w) (number n) h = (refl, refl)
  counted char (scalar c) h = (refl, refl)
  counted string (text cs) h = (refl, refl)
  counted (list t) (elements vs) h =
      let all = counted_each t (counted t) vs h in (omega (arith, all.0), all.1)
  counted (fixed_list t n) (parts vs) h = counted_each t (counted t) vs h.1
  counted (fields k fs) (parts vs) h = counted_fields fs vs h
  counted (cases k cs) (bare i) h = (refl, refl)
  counted (cases k cs) (bearing i v) h = counted_payload cs i v h
  counted (flags ls) (flag_set n) h = (refl, refl)
  counted (own r) (handle e) h = (refl, refl)
  counted (borrow r) (handle e) h = (refl, refl)
  counted t v h = absurd h

  counted_fields : (fs : Fields) (vs : Vals) → HaveTypes fs vs
      → (length (parts_in_fields fs vs) ≡ part_count_each vs) × (length (leaves_in_fields fs vs) ≡ handle_count_each vs)
  counted_fields no_fields no_vals h = (refl, refl)
  counted_fields no_fields (val v vs) h = absurd h
  counted_fields (field l t fs) no_vals h = absurd h
  counted_fields (field l t fs) (val v vs) h =
      let head = counted t v h.0 in
      let tail = counted_fields fs vs h.1 in (
        omega (arith, length-append (parts_in t v) (parts_in_fields fs vs), head.0, tail.0),
        omega (arith, length-append (leaves_in t v) (leaves_in_fields fs vs), head.1, tail.1),
      )

  counted_payload : (cs : Cases) (i : ℕ) (v : Val) → IsCarriedCase cs i v
      → (length (parts_in_payload cs i v) ≡ part_count v) × (length (leaves_in_payload cs i v) ≡ handle_count v)
  counted_payload no_cases i v h = absurd h
  counted_payload (plain l cs) zero v h = absurd h
  counted_payload (plain l cs) (suc i) v h = counted_payload cs i v h
  counted_payload (carrying l t cs) zero v h = counted t v h
  counted_payload (carrying l t cs) (suc i) v h = counted_payload cs i v h

-- ---- numbers that fit

plain_below : (cs : Cases) (i : ℕ) → IsPlainCase cs i → i < case_count cs
plain_below no_cases i h = absurd h
plain_below (plain l cs) zero h = omega arith
plain_below (plain l cs) (suc i) h = omega (arith, plain_below cs i h)
plain_below (carrying l t cs) zero h = absurd h
plain_below (carrying l t cs) (suc i) h = omega (arith, plain_below cs i h)

carried_below : (cs : Cases) (i : ℕ) (v : Val) → IsCarriedCase cs i v → i < case_count cs
carried_below no_cases i v h = absurd h
carried_below (plain l cs) zero v h = absurd h
carried_below (plain l cs) (suc i) v h = omega (arith, carried_below cs i v h)
carried_below (carrying l t cs) zero v h = omega arith
carried_below (carrying l t cs) (suc i) v h = omega (arith, carried_below cs i v h)

case_fits : (n i : ℕ) → i < n → i < 2 ^ 32 → i < 256 ^ discriminant_size n
case_fits n i below small = grind (arith, nat_tests)

number_fits : (w : Width) (n : ℕ) → n < 2 ^ (8 * width_bytes w) → n < 256 ^ width_bytes w
number_fits bits_8 n h = h
number_fits bits_16 n h = h
number_fits bits_32 n h = h
number_fits bits_64 n h = h

-- two's complement back and forth, where half of the numbers are negative
abbrev lowered : ℕ → ℤ → ℕ
lowered all (pos n) = n
lowered all (negsuc n) = all - (n + 1)

signed_back : (half all : ℕ) (z : ℤ) → all ≡ half + half → (neg_ℤ (pos half) ≤ℤ z) × (z <ℤ pos half)
    → (lowered all z < all)
    × ((if nat_lt (lowered all z) half then pos (lowered all z) else neg_ℤ (pos (all - lowered all z))) ≡ z)
signed_back half all (pos n) e fits =
    let small : n < half = grind (arith, ints, fits.1) in (
      omega (arith, small, e),
      ap (λ b. if b then pos n else neg_ℤ (pos (all - n))) (lt-ltb n half small),
    )
signed_back half all (negsuc n) e fits =
    let small : n + 1 ≤ half = grind (arith, ints, fits.0) in (
      omega (arith, small, e),
      ap (λ b. if b then pos (all - (n + 1)) else neg_ℤ (pos (all - (all - (n + 1))))) (le-ltb (all - (n + 1)) half (omega (arith, small, e)))
          ∙ ap (λ m. neg_ℤ (pos m)) {x = all - (all - (n + 1))} {y = suc n} (omega (arith, small, e)),
    )

from_is : (bytes : ℕ) (z : ℤ) → from_signed bytes z ≡ lowered (2 ^ (8 * bytes)) z
from_is bytes (pos n) = refl
from_is bytes (negsuc n) = refl

signed_fits : (w : Width) (z : ℤ) → FitsSignedWidth w z
    → (from_signed (width_bytes w) z < 256 ^ width_bytes w) × (as_signed (width_bytes w) (from_signed (width_bytes w) z) ≡ z)
signed_fits bits_8 z fits = rw (from_is 1 z) (signed_back (2 ^ 7) (2 ^ 8) z refl fits)
signed_fits bits_16 z fits = rw (from_is 2 z) (signed_back (2 ^ 15) (2 ^ 16) z refl fits)
signed_fits bits_32 z fits = rw (from_is 4 z) (signed_back (2 ^ 31) (2 ^ 32) z refl fits)
signed_fits bits_64 z fits = rw (from_is 8 z) (signed_back (2 ^ 63) (2 ^ 64) z refl fits)

flags_fit : (labels n : ℕ) → labels ≤ 32 → n < 2 ^ labels → n < 256 ^ flags_size labels
flags_fit labels n few small = elim (cases_lt labels 9) [
  | inl le ↦ subst (λ s. n < 256 ^ s) (sym (one (omega (arith, le)))) (omega (arith, small, pow-le-pow_right {n = 2} (omega arith) {i = labels} {j = 8} (omega (arith, le))))
  | inr past ↦ elim (cases_lt labels 17) [
    | inl le ↦ subst (λ s. n < 256 ^ s) (sym (two (omega (arith, past)) (omega (arith, le)))) (omega (arith, small, pow-le-pow_right {n = 2} (omega arith) {i = labels} {j = 16} (omega (arith, le))))
    | inr more ↦ subst (λ s. n < 256 ^ s) (sym (four (omega (arith, more)))) (omega (arith, small, pow-le-pow_right {n = 2} (omega arith) {i = labels} {j = 32} few))
  ]
]
  where
    one : labels ≤ 8 → flags_size labels ≡ 1
    one le = grind (arith, nat_tests)

    two : 8 < labels → labels ≤ 16 → flags_size labels ≡ 2
    two more le = grind (arith, nat_tests)

    four : 16 < labels → flags_size labels ≡ 4
    four more = grind (arith, nat_tests)

byte_at : (m : List ℕ) (p b : ℕ) → slice_index m p ≡ b → number_at 1 m p ≡ b
unfolding number_at
byte_at m p b e = omega (arith, e)

-- ---- handles

handle_shown : (t : Handles) (index : ℕ) (kind : HandleKind) (h : HandleValue) (r : ResourceId) → h.resource ≡ r
    → handle_at t index ≡ Some (record { resource = h.resource; serial = h.serial; lends = 0; rep = h.rep; kind = kind })
    → ShowsHandle t index r h
handle_shown t index kind h r of stands = record {
  entry = record { resource = h.resource; serial = h.serial; lends = 0; rep = h.rep; kind = kind };
  stands = stands;
  of_resource = of;
  value = ap (λ x. record { serial = h.serial; rep = h.rep; resource = x }) of;
}

owned_shown : (t : Handles) (index : ℕ) (h : HandleValue) (r : ResourceId) → h.resource ≡ r
    → handle_at t index ≡ Some (record { resource = h.resource; serial = h.serial; lends = 0; rep = h.rep; kind = Owned })
    → ShowsOwned t index r h
unfolding handle_shown
owned_shown t index h r of stands = record { handle = handle_shown t index Owned h r of stands; owned = refl }

-- ---- all that is known of what was stored

module _ (w : View) (g : Given) (in_memory : length w.memory < 2 ^ 32) (is_stored : IsStored w.encoding)
    (charset : g.charset ≡ stored_charset w.encoding) (sound : IsSoundHandles w.table) where
  pub record Fit (bytes : List Placed) (ps : List Part) (leaves : List HandleLeaf) (k h : ℕ) : Type 0 where
    pub held : Holds w.memory bytes
    pub placed : ArePlaced w.encoding (length w.memory) g k ps
    pub stand : AllStand w g h leaves
    pub none : NoneImplemented w leaves

  placed_split : (ps qs : List Part) (k n : ℕ) → length ps ≡ n → ArePlaced w.encoding (length w.memory) g k (ps ++ qs)
      → ArePlaced w.encoding (length w.memory) g k ps × ArePlaced w.encoding (length w.memory) g (k + n) qs
  placed_split [] qs k n e h = (tt {0}, subst (λ i. ArePlaced w.encoding (length w.memory) g i qs) (omega (arith, e)) h)
  placed_split (p ∷ ps) qs k n e h =
      let rest = placed_split ps qs (k + 1) (n - 1) (omega (arith, e)) h.1 in
      ((h.0, rest.0), subst (λ i. ArePlaced w.encoding (length w.memory) g i qs) (omega (arith, e)) rest.1)

  stand_split : (xs ys : List HandleLeaf) (h n : ℕ) → length xs ≡ n → AllStand w g h (xs ++ ys)
      → AllStand w g h xs × AllStand w g (h + n) ys
  stand_split [] ys h n e s = (tt {0}, subst (λ i. AllStand w g i ys) (omega (arith, e)) s)
  stand_split (x ∷ xs) ys h n e s =
      let rest = stand_split xs ys (h + 1) (n - 1) (omega (arith, e)) s.1 in
      ((s.0, rest.0), subst (λ i. AllStand w g i ys) (omega (arith, e)) rest.1)

  none_split : (xs ys : List HandleLeaf) → NoneImplemented w (xs ++ ys) → NoneImplemented w xs × NoneImplemented w ys
  none_split [] ys h = (tt {0}, h)
  none_split (owned_leaf e ∷ xs) ys h = none_split xs ys h
  none_split (borrowed_leaf e ∷ xs) ys h = let rest = none_split xs ys h.1 in ((h.0, rest.0), rest.1)

  fit_split : (as' bs : List Placed) (ps qs : List Part) (xs ys : List HandleLeaf) (k h m n : ℕ) → length ps ≡ m → length xs ≡ n
      → Fit (as' ++ bs) (ps ++ qs) (xs ++ ys) k h → Fit as' ps xs k h × Fit bs qs ys (k + m) (h + n)
  fit_split as' bs ps qs xs ys k h m n lp lx f =
      let held = holds_split w.memory as' bs f.held in
      let placed = placed_split ps qs k m lp f.placed in
      let stand = stand_split xs ys h n lx f.stand in
      let none = none_split xs ys f.none in (
        record { held = held.0; placed = placed.0; stand = stand.0; none = none.0 },
        record { held = held.1; placed = placed.1; stand = stand.1; none = none.1 },
      )

  abbrev Stored : Ty → Val → ℕ → ℕ → ℕ → Type 0
  Stored t v p k h = Fit (stored g t v p k h) (parts_in t v) (leaves_in t v) k h

  index_fits : (n : ℕ) (e : Handle) → handle_at w.table n ≡ Some e → n < 2 ^ 32
  index_fits n e stands = omega (arith, within_slots w.table n e stands, sound.limit)

  number_fit : (n p x : ℕ) → x < 256 ^ n → Holds w.memory (placed p (bytes_of n x)) → number_at n w.memory p ≡ x
  number_fit n p x small held = number_held n w.memory p x small held

  pointer_fit : (p at n : ℕ) (more : List Placed) → at < 2 ^ 32 → n < 2 ^ 32 → Holds w.memory (pointer_bytes p at n ++ more)
      → (number_at 4 w.memory p ≡ at) × (number_at 4 w.memory (p + 4) ≡ n) × Holds w.memory more
  pointer_fit p at n more small few held =
      let cut = holds_split w.memory (pointer_bytes p at n) more held in
      let both = holds_split w.memory (placed p (bytes_of 4 at)) (placed (p + 4) (bytes_of 4 n)) cut.0 in
      (number_held 4 w.memory p at small both.0, number_held 4 w.memory (p + 4) n few both.1, cut.1)

  each_shown : (t : Ty) → ((v : Val) (p k h : ℕ) → HasType t v → CasesFit v → Stored t v p k h → Shows w t p v)
      → (vs : Vals) (p k h : ℕ) → AllVals (HasType t) vs → AllCasesFit vs
      → Fit (store_each (stored g t) (size_of t) vs p k h) (parts_each (parts_in t) vs) (leaves_each (leaves_in t) vs) k h
      → ShowEach (Shows w t) (size_of t) p vs
  each_shown t one no_vals p k h typed small f = tt {0}
  each_shown t one (val v vs) p k h typed small f =
      let c = counted t v typed.0 in
      let cut = fit_split _ _ _ _ _ _ k h (part_count v) (handle_count v) c.0 c.1 f in
      (one v p k h typed.0 small.0 cut.0, each_shown t one vs (p + size_of t) (k + part_count v) (h + handle_count v) typed.1 small.1 cut.1)

  mutual
    pub stored_shown : (t : Ty) → is_spellable t ≡ true → (v : Val) (p k h : ℕ) → HasType t v → CasesFit v → Stored t v p k h
        → Shows w t p v
    stored_shown bool ok (truth true) p k h typed small f = ap (λ n. not (n == 0)) (sym (byte_at w.memory p 1 f.held.0))
    stored_shown bool ok (truth false) p k h typed small f = ap (λ n. not (n == 0)) (sym (byte_at w.memory p 0 f.held.0))
    stored_shown (signed b) ok (signed_number z) p k h typed small f =
        let fits = signed_fits b z typed in
        sym fits.1 ∙ ap (as_signed (width_bytes b)) (sym (number_fit (width_bytes b) p _ fits.0 f.held))
    stored_shown (unsigned b) ok (number n) p k h typed small f = sym (number_fit (width_bytes b) p n (number_fits b n typed) f.held)
    stored_shown char ok (scalar c) p k h typed small f = (sym (number_fit 4 p c (omega (arith, typed.0)) f.held), typed)
    stored_shown string ok (text cs) p k h typed small f =
        let put = f.placed.0 in
        let fit = units_fit w.encoding (length w.memory) cs (place_of g k) is_stored put in_memory in
        let held = subst (λ s. Holds w.memory (pointer_bytes p (place_of g k) (text_units s cs) ++ placed (place_of g k) (text_bytes s cs))) charset f.held in
        let pointer = pointer_fit p (place_of g k) (text_units (stored_charset w.encoding) cs) _ fit.0 fit.1 held in
        rw (pointer.0, pointer.1) (text_shown w.encoding w.memory cs (place_of g k) is_stored put pointer.2 typed)
    stored_shown (list t) ok (elements vs) p k h typed small f =
        let put = f.placed.0 in
        let pointer = pointer_fit p (place_of g k) (count_of vs) _ (omega (arith, put.inside, in_memory)) put.counted f.held in
        rw (pointer.0, pointer.1) (record {
          aligned = put.aligned;
          inside = put.inside;
          count = refl;
          each =
              each_shown t (stored_shown t ok) vs (place_of g k) (k + 1) h typed small
              (record { held = pointer.2; placed = f.placed.1; stand = f.stand; none = f.none });
        })
    stored_shown (fixed_list t n) ok (parts vs) p k h typed small f =
        (typed.0, each_shown t (stored_shown t (and_parts _ _ ok).1) vs p k h typed.1 small f)
    stored_shown (fields c fs) ok (parts vs) p k h typed small f = fields_shown fs (and_parts _ _ ok).1 vs p 0 k h typed small f
    stored_shown (cases c cs) ok (bare i) p k h typed small f =
        (number_fit (discriminant_size (case_count cs)) p i (case_fits (case_count cs) i (plain_below cs i typed) small) f.held, typed)
    stored_shown (cases c cs) ok (bearing i v) p k h typed small f =
        let held = holds_split w.memory (placed p (bytes_of (discriminant_size (case_count cs)) i)) _ f.held in (
          number_fit (discriminant_size (case_count cs)) p i (case_fits (case_count cs) i (carried_below cs i v typed) small.0) held.0,
          payload_shown cs (and_parts _ _ ok).1 i v (p + payload_offset cs) k h typed small.1
              (record { held = held.1; placed = f.placed; stand = f.stand; none = f.none }),
        )
    stored_shown (flags ls) ok (flag_set n) p k h typed small f =
        let few : length ls ≤ 32 = leb-true (length ls) 32 (and_parts _ _ ok).1 in
        sym (ap (λ x. x % 2 ^ length ls) (number_fit (flags_size (length ls)) p n (flags_fit (length ls) n few typed) f.held) ∙ mod-eq_of_lt typed)
    stored_shown (own r) ok (handle e) p k h typed small f =
        let at = number_fit 4 p (number_of g h) (index_fits (number_of g h) _ f.stand.0) f.held in
        rw at (owned_shown w.table (number_of g h) e r typed f.stand.0)
    stored_shown (borrow r) ok (handle e) p k h typed small f =
        let stands = subst (λ b. StandsForBorrow b w (number_of g h) e) f.none.0 f.stand.0 in
        let at = number_fit 4 p (number_of g h) (index_fits (number_of g h) _ stands) f.held in
        rw at (handle_shown w.table (number_of g h) (Borrowed w.call) e r typed stands)
    stored_shown t ok v p k h typed small f = absurd typed

    fields_shown : (fs : Fields) → are_spellable fs ≡ true → (vs : Vals) (p end k h : ℕ) → HaveTypes fs vs → AllCasesFit vs
        → Fit (stored_fields g fs vs p end k h) (parts_in_fields fs vs) (leaves_in_fields fs vs) k h → ShowFields w fs p end vs
    fields_shown no_fields ok no_vals p end k h typed small f = tt {0}
    fields_shown no_fields ok (val v vs) p end k h typed small f = absurd typed
    fields_shown (field l t fs) ok no_vals p end k h typed small f = absurd typed
    fields_shown (field l t fs) ok (val v vs) p end k h typed small f =
        let c = counted t v typed.0 in
        let both = and_parts _ _ ok in
        let cut = fit_split _ _ _ _ _ _ k h (part_count v) (handle_count v) c.0 c.1 f in
        (stored_shown t both.0 v _ k h typed.0 small.0 cut.0, fields_shown fs both.1 vs p _ _ _ typed.1 small.1 cut.1)

    payload_shown : (cs : Cases) → are_spellable_payloads cs ≡ true → (i : ℕ) (v : Val) (p k h : ℕ) → IsCarriedCase cs i v → CasesFit v
        → Fit (stored_payload g cs i v p k h) (parts_in_payload cs i v) (leaves_in_payload cs i v) k h → ShowsPayload w cs p i v
    payload_shown no_cases ok i v p k h typed small f = absurd typed
    payload_shown (plain l cs) ok zero v p k h typed small f = absurd typed
    payload_shown (plain l cs) ok (suc i) v p k h typed small f = payload_shown cs ok i v p k h typed small f
    payload_shown (carrying l t cs) ok zero v p k h typed small f = stored_shown t (and_parts _ _ ok).0 v p k h typed small f
    payload_shown (carrying l t cs) ok (suc i) v p k h typed small f = payload_shown cs (and_parts _ _ ok).1 i v p k h typed small f

-- ---- the same in slots

slots_split : (slots : List CoreValue) (xs ys : List Placed) → SlotsHold slots (xs ++ ys) → SlotsHold slots xs × SlotsHold slots ys
slots_split slots [] ys h = (tt {0}, h)
slots_split slots (x ∷ xs) ys h = let r = slots_split slots xs ys h.1 in ((h.0, r.0), r.1)

-- a number in a slot that fits what is wanted
wrapped : (bytes n : ℕ) (slots : List CoreValue) (s : ℕ) → slot_at slots s ≡ n → n < 2 ^ (8 * bytes) → wrapped_at bytes slots s ≡ n
wrapped bytes n slots s e small = ap (λ x. x % 2 ^ (8 * bytes)) e ∙ mod-eq_of_lt small

-- a signed number that was widened is narrowed to what it was
narrowed : (b : Width) (z : ℤ) → FitsSignedWidth b z
    → from_signed (slot_bytes b) z % 2 ^ (8 * width_bytes b) ≡ from_signed (width_bytes b) z
narrowed bits_8 (pos n) fits = let small : n < 128 = grind (arith, ints, fits.1) in omega (arith, small)
narrowed bits_8 (negsuc n) fits = let small : n + 1 ≤ 128 = grind (arith, ints, fits.0) in omega (arith, small)
narrowed bits_16 (pos n) fits = let small : n < 2 ^ 15 = grind (arith, ints, fits.1) in omega (arith, small)
narrowed bits_16 (negsuc n) fits = let small : n + 1 ≤ 2 ^ 15 = grind (arith, ints, fits.0) in omega (arith, small)
narrowed bits_32 (pos n) fits = let small : n < 2 ^ 31 = grind (arith, ints, fits.1) in omega (arith, small)
narrowed bits_32 (negsuc n) fits = let small : n + 1 ≤ 2 ^ 31 = grind (arith, ints, fits.0) in omega (arith, small)
narrowed bits_64 (pos n) fits = let small : n < 2 ^ 63 = grind (arith, ints, fits.1) in omega (arith, small)
narrowed bits_64 (negsuc n) fits = let small : n + 1 ≤ 2 ^ 63 = grind (arith, ints, fits.0) in omega (arith, small)

module _ (w : View) (g : Given) (in_memory : length w.memory < 2 ^ 32) (is_stored : IsStored w.encoding)
    (charset : g.charset ≡ stored_charset w.encoding) (sound : IsSoundHandles w.table) (slots : List CoreValue) where
  abbrev MemoryFit : List Placed → List Part → List HandleLeaf → ℕ → ℕ → Type 0
  MemoryFit = Fit w g in_memory is_stored charset sound

  abbrev FlatFit : List Placed → List Placed → List Part → List HandleLeaf → ℕ → ℕ → Type 0
  FlatFit puts bytes ps leaves k h = SlotsHold slots puts × MemoryFit bytes ps leaves k h

  flat_split : (us vs : List Placed) (as' bs : List Placed) (ps qs : List Part) (xs ys : List HandleLeaf) (k h m n : ℕ) → length ps ≡ m
      → length xs ≡ n → FlatFit (us ++ vs) (as' ++ bs) (ps ++ qs) (xs ++ ys) k h
      → FlatFit us as' ps xs k h × FlatFit vs bs qs ys (k + m) (h + n)
  flat_split us vs as' bs ps qs xs ys k h m n lp lx f =
      let puts = slots_split slots us vs f.0 in
      let rest = fit_split w g in_memory is_stored charset sound as' bs ps qs xs ys k h m n lp lx f.1 in
      ((puts.0, rest.0), (puts.1, rest.1))

  abbrev Passed : Ty → Val → ℕ → ℕ → ℕ → Type 0
  Passed t v s k h = FlatFit (slots_of g t v s k h) (behind g t v k h) (parts_in t v) (leaves_in t v) k h

  flat_each_shown : (t : Ty) → ((v : Val) (s k h : ℕ) → HasType t v → CasesFit v → Passed t v s k h → FlatShows w slots t s v)
      → (vs : Vals) (s k h : ℕ) → AllVals (HasType t) vs → AllCasesFit vs
      → FlatFit (store_each (slots_of g t) (width_of t) vs s k h) (behind_each (behind g t) vs k h) (parts_each (parts_in t) vs)
      (leaves_each (leaves_in t) vs) k h
      → ShowEach (FlatShows w slots t) (width_of t) s vs
  flat_each_shown t one no_vals s k h typed small f = tt {0}
  flat_each_shown t one (val v vs) s k h typed small f =
      let c = counted t v typed.0 in
      let cut = flat_split _ _ _ _ _ _ _ _ k h (part_count v) (handle_count v) c.0 c.1 f in
      (one v s k h typed.0 small.0 cut.0, flat_each_shown t one vs (s + width_of t) (k + part_count v) (h + handle_count v) typed.1 small.1 cut.1)

  mutual
    pub passed_shown : (t : Ty) → is_spellable t ≡ true → (v : Val) (s k h : ℕ) → HasType t v → CasesFit v → Passed t v s k h
        → FlatShows w slots t s v
    passed_shown bool ok (truth true) s k h typed small f = ap (λ n. not (n == 0)) (sym (wrapped 4 1 slots s f.0.0 (omega arith)))
    passed_shown bool ok (truth false) s k h typed small f = ap (λ n. not (n == 0)) (sym (wrapped 4 0 slots s f.0.0 (omega arith)))
    passed_shown (signed b) ok (signed_number z) s k h typed small f =
        let narrow : wrapped_at (width_bytes b) slots s ≡ from_signed (width_bytes b) z =
        ap (λ x. x % 2 ^ (8 * width_bytes b)) f.0.0 ∙ narrowed b z typed in
        sym (signed_fits b z typed).1 ∙ ap (as_signed (width_bytes b)) (sym narrow)
    passed_shown (unsigned b) ok (number n) s k h typed small f = sym (wrapped (width_bytes b) n slots s f.0.0 typed)
    passed_shown char ok (scalar c) s k h typed small f = (sym (wrapped 4 c slots s f.0.0 (omega (arith, typed.0))), typed)
    passed_shown string ok (text cs) s k h typed small f =
        let put = f.1.placed.0 in
        let fit = units_fit w.encoding (length w.memory) cs (place_of g k) is_stored put in_memory in
        let held = subst (λ c. Holds w.memory (placed (place_of g k) (text_bytes c cs))) charset f.1.held in
        let units : wrapped_at 4 slots (s + 1) ≡ text_units (stored_charset w.encoding) cs =
        wrapped 4 _ slots (s + 1) (f.0.1.0 ∙ ap (λ c. text_units c cs) charset) fit.1 in
        rw (wrapped 4 (place_of g k) slots s f.0.0 fit.0, units) (text_shown w.encoding w.memory cs (place_of g k) is_stored put held typed)
    passed_shown (list t) ok (elements vs) s k h typed small f =
        let put = f.1.placed.0 in
        rw (wrapped 4 (place_of g k) slots s f.0.0 (omega (arith, put.inside, in_memory)), wrapped 4 (count_of vs) slots (s + 1) f.0.1.0 put.counted)
        (record {
          aligned = put.aligned;
          inside = put.inside;
          count = refl;
          each =
              each_shown w g in_memory is_stored charset sound t (stored_shown w g in_memory is_stored charset sound t ok) vs (place_of g k) (k + 1) h typed small
              (record { held = f.1.held; placed = f.1.placed.1; stand = f.1.stand; none = f.1.none });
        })
    passed_shown (fixed_list t n) ok (parts vs) s k h typed small f =
        (typed.0, flat_each_shown t (passed_shown t (and_parts _ _ ok).1) vs s k h typed.1 small f)
    passed_shown (fields c fs) ok (parts vs) s k h typed small f = flat_fields_shown fs (and_parts _ _ ok).1 vs s k h typed small f
    passed_shown (cases c cs) ok (bare i) s k h typed small f = (wrapped 4 i slots s f.0.0 small, typed)
    passed_shown (cases c cs) ok (bearing i v) s k h typed small f =
        (wrapped 4 i slots s f.0.0 small.0, flat_payload_shown cs (and_parts _ _ ok).1 i v (s + 1) k h typed small.1 (f.0.1, f.1))
    passed_shown (flags ls) ok (flag_set n) s k h typed small f =
        let few : length ls ≤ 32 = leb-true (length ls) 32 (and_parts _ _ ok).1 in
        let fits : n < 2 ^ 32 = omega (arith, typed, pow-le-pow_right {n = 2} (omega arith) {i = length ls} {j = 32} few) in
        sym (ap (λ x. x % 2 ^ length ls) (wrapped 4 n slots s f.0.0 fits) ∙ mod-eq_of_lt typed)
    passed_shown (own r) ok (handle e) s k h typed small f =
        rw (wrapped 4 (number_of g h) slots s f.0.0 (index_fits w g in_memory is_stored charset sound (number_of g h) _ f.1.stand.0))
        (owned_shown w.table (number_of g h) e r typed f.1.stand.0)
    passed_shown (borrow r) ok (handle e) s k h typed small f =
        let stands = subst (λ b. StandsForBorrow b w (number_of g h) e) f.1.none.0 f.1.stand.0 in
        rw (wrapped 4 (number_of g h) slots s f.0.0 (index_fits w g in_memory is_stored charset sound (number_of g h) _ stands))
        (handle_shown w.table (number_of g h) (Borrowed w.call) e r typed stands)
    passed_shown t ok v s k h typed small f = absurd typed

    flat_fields_shown : (fs : Fields) → are_spellable fs ≡ true → (vs : Vals) (s k h : ℕ) → HaveTypes fs vs → AllCasesFit vs
        → FlatFit (slots_of_fields g fs vs s k h) (behind_fields g fs vs k h) (parts_in_fields fs vs) (leaves_in_fields fs vs) k h
        → FlatShowFields w slots fs s vs
    flat_fields_shown no_fields ok no_vals s k h typed small f = tt {0}
    flat_fields_shown no_fields ok (val v vs) s k h typed small f = absurd typed
    flat_fields_shown (field l t fs) ok no_vals s k h typed small f = absurd typed
    flat_fields_shown (field l t fs) ok (val v vs) s k h typed small f =
        let c = counted t v typed.0 in
        let both = and_parts _ _ ok in
        let cut = flat_split _ _ _ _ _ _ _ _ k h (part_count v) (handle_count v) c.0 c.1 f in
        (passed_shown t both.0 v _ k h typed.0 small.0 cut.0, flat_fields_shown fs both.1 vs _ _ _ typed.1 small.1 cut.1)

    flat_payload_shown : (cs : Cases) → are_spellable_payloads cs ≡ true → (i : ℕ) (v : Val) (s k h : ℕ) → IsCarriedCase cs i v → CasesFit v
        → FlatFit (slots_of_payload g cs i v s k h) (behind_payload g cs i v k h) (parts_in_payload cs i v) (leaves_in_payload cs i v) k h
        → FlatShowsPayload w slots cs s i v
    flat_payload_shown no_cases ok i v s k h typed small f = absurd typed
    flat_payload_shown (plain l cs) ok zero v s k h typed small f = absurd typed
    flat_payload_shown (plain l cs) ok (suc i) v s k h typed small f = flat_payload_shown cs ok i v s k h typed small f
    flat_payload_shown (carrying l t cs) ok zero v s k h typed small f = passed_shown t (and_parts _ _ ok).0 v s k h typed small f
    flat_payload_shown (carrying l t cs) ok (suc i) v s k h typed small f = flat_payload_shown cs (and_parts _ _ ok).1 i v s k h typed small f

-- ---- a call

denoted_by : (w : View) (way : Way) (types : Fields) (slots : List CoreValue) (g : Given) (v : Val) (spilled : Bool) → is_spilled way types ≡ spilled
    → Receives w way types slots g v → Serves w way types g v → IsStored w.encoding → NoneImplemented w (leaves_in (tuple_of types) v)
    → Denotes w way types slots v
denoted_by w way types slots g (parts vs) true e r s kept none =
    let bytes : Holds w.memory (stored g (tuple_of types) (parts vs) (place_of g 0) 1 0) =
    subst (λ b. Holds w.memory (if b then stored g (tuple_of types) (parts vs) (place_of g 0) 1 0 else behind g (tuple_of types) (parts vs) 0 0)) e r.bytes in
    let puts : SlotsHold slots (put 0 (place_of g 0)) =
    subst (λ b. SlotsHold slots (if b then put 0 (place_of g 0) else slots_of g (tuple_of types) (parts vs) 0 0 0)) e r.numbers.numbers in
    let area = element_part 1 (size_of (tuple_of types)) (align_of (tuple_of types)) in
    let places : ArePlaced w.encoding (length w.memory) g 0 (area ∷ parts_in (tuple_of types) (parts vs)) =
    subst (λ b. ArePlaced w.encoding (length w.memory) g 0 (if b then area ∷ parts_in (tuple_of types) (parts vs) else parts_in (tuple_of types) (parts vs))) e r.placed in
    let at : wrapped_at 4 slots 0 ≡ place_of g 0 = wrapped 4 (place_of g 0) slots 0 puts.0 (omega (arith, places.0.inside, s.memory)) in
    inr (record {
      spilled = ltb-true _ _ e;
      aligned = rw at places.0.aligned;
      inside = omega (arith, at, places.0.inside);
      shown =
          rw at
          (fields_shown w g s.memory kept r.stored_in s.table types s.spellable vs (place_of g 0) 0 1 0 r.typed s.cases
          (record { held = bytes; placed = places.1; stand = r.handles; none = none }));
    })
denoted_by w way types slots g (parts vs) false e r s kept none =
    let bytes : Holds w.memory (behind g (tuple_of types) (parts vs) 0 0) =
    subst (λ b. Holds w.memory (if b then stored g (tuple_of types) (parts vs) (place_of g 0) 1 0 else behind g (tuple_of types) (parts vs) 0 0)) e r.bytes in
    let puts : SlotsHold slots (slots_of g (tuple_of types) (parts vs) 0 0 0) =
    subst (λ b. SlotsHold slots (if b then put 0 (place_of g 0) else slots_of g (tuple_of types) (parts vs) 0 0 0)) e r.numbers.numbers in
    let area = element_part 1 (size_of (tuple_of types)) (align_of (tuple_of types)) in
    let places : ArePlaced w.encoding (length w.memory) g 0 (parts_in (tuple_of types) (parts vs)) =
    subst (λ b. ArePlaced w.encoding (length w.memory) g 0 (if b then area ∷ parts_in (tuple_of types) (parts vs) else parts_in (tuple_of types) (parts vs))) e r.placed in
    inl (record {
      fits = ltb-false _ _ e;
      shown =
          flat_fields_shown w g s.memory kept r.stored_in s.table slots types s.spellable vs 0 0 0 r.typed s.cases
          (puts, record { held = bytes; placed = places; stand = r.handles; none = none });
    })
denoted_by w way types slots g v spilled e r s kept none = absurd r.typed

-- strings may be stored in an encoding, or it stores them as UTF-16
stored_or_tagged : (e : StringEncoding) → IsStored e ⊎ (stored_charset e ≡ utf16)
stored_or_tagged encoding.Utf8 = inl tt
stored_or_tagged encoding.Utf16 = inl tt
stored_or_tagged encoding.Latin1OrUtf16 = inr refl

none_alike : (w : View) (e : StringEncoding) (leaves : List HandleLeaf) → NoneImplemented w leaves → NoneImplemented (read_as w e) leaves
none_alike w e [] none = tt
none_alike w e (owned_leaf h ∷ leaves) none = none_alike w e leaves none
none_alike w e (borrowed_leaf h ∷ leaves) none = (none.0, none_alike w e leaves none.1)

-- without strings, by the view that reads them in UTF-16
denoted_without : (w : View) (way : Way) (types : Fields) (slots : List CoreValue) (g : Given) (v : Val) → stored_charset w.encoding ≡ utf16 → HaveNoString types
    → Receives w way types slots g v → Serves w way types g v → NoneImplemented w (leaves_in (tuple_of types) v)
    → Denotes w way types slots v
denoted_without w way types slots g v tagged no_string r s none =
    let u : View = read_as w encoding.Utf16 in
    let later : IsLater w u (call_bytes g way types v) = record {
      instance_is = refl;
      call_is = refl;
      stored_alike = tagged;
      longer = omega arith;
      stand = r.bytes;
      unlent = λ index h at free. at;
    } in
    let serves : Serves u way types g v = record { stores = inl tt; memory = s.memory; table = s.table; spellable = s.spellable; cases = s.cases } in
    denoted_alike w encoding.Utf16 way types slots v no_string
    (denoted_by u way types slots g v (is_spilled way types) refl (received_stays w u way types slots g v r later) serves tt
    (none_alike w encoding.Utf16 (leaves_in (tuple_of types) v) none))

pub denoted : (w : View) (way : Way) (types : Fields) (slots : List CoreValue) (g : Given) (v : Val)
    → Receives w way types slots g v → Serves w way types g v → NoneImplemented w (leaves_in (tuple_of types) v)
    → Denotes w way types slots v
denoted w way types slots g v r s none = elim s.stores [
  | inl kept ↦ denoted_by w way types slots g v (is_spilled way types) refl r s kept none
  | inr no_string ↦ elim (stored_or_tagged w.encoding) [
    | inl kept ↦ denoted_by w way types slots g v (is_spilled way types) refl r s kept none
    | inr tagged ↦ denoted_without w way types slots g v tagged no_string r s none
  ]
]
