-- One value is received, but for the serial numbers of borrows that the receiver implements: with
-- the numbers of its handles in their places it is one, and each number stands for one handle.
use Rattle.std.proofs.Common.{◌≡◌, ℕ, zero, suc, ◌+◌, ◌^◌, ◌<◌, Bool, true, false, List, [], ◌∷◌}
use Rattle.std.proofs.Common.{◌++◌, length, map, Option, Some, None, refl, sym, ap, subst, ◌∙◌}
use Rattle.std.proofs.Common.{arith, inl, inr}
use Rattle.std.specs.Prelude.{nat_lt, if◌then◌else◌}
use Rattle.std.specs.List.{All}
use Rattle.std.proofs.lemmas.Bool.{cases_lt}
use Rattle.std.proofs.lemmas.List.{append-nil, append_assoc, get_or_past, map-append}
use Rattle.std.proofs.lemmas.List.Elements.{All-get_or}
use Rattle.cm_types.specs.declared.core_value.CoreKind.TheVariants as kind
use Rattle.cm_types.specs.declared.core_value.CoreValue.{CoreValue}
use Rattle.cm_types.specs.Types.{Ty, Fields, Cases, bool, signed, unsigned, char, string, list}
use Rattle.cm_types.specs.Types.{fixed_list, fields, cases, flags, own, borrow, no_fields, field}
use Rattle.cm_types.specs.Types.{no_cases, plain, carrying}
use Rattle.cm_types.specs.Values.{Val, Vals, HandleValue, no_vals, val, truth, signed_number}
use Rattle.cm_types.specs.Values.{number, scalar, text, elements, parts, bare, bearing, flag_set}
use Rattle.cm_types.specs.Values.{handle, AllVals, HasType, HaveTypes, IsCarriedCase}
use Rattle.cm_handles.specs.Handles.{handle_at}
use Rattle.cm_handles.specs.declared.handle.Handle.{Handle}
use Rattle.cm_handles.specs.declared.handle.HandleKind.{HandleKind}
use Rattle.cm_handles.specs.declared.handle.HandleKind.TheVariants.{Owned, Borrowed}
use Rattle.cm_abi_model.specs.Denotes.{Denotes}
use Rattle.cm_abi_model.specs.HandleLeaves.{stands_for}
use Rattle.cm_abi_model.specs.Parts.{element_part, handle_count, handle_count_each, parts_in}
use Rattle.cm_abi_model.specs.Receives.{AllStand, HandleLeaf, HasHandle, NoneImplemented, Passes}
use Rattle.cm_abi_model.specs.Receives.{Receives, Serves, SlotsHold, StandsForBorrow}
use Rattle.cm_layout.specs.Sizes.{align_of, size_of}
use Rattle.cm_abi_model.specs.Receives.{borrowed_leaf, call_bytes, call_kinds, call_numbers}
use Rattle.cm_abi_model.specs.Receives.{leaves_each, leaves_in, leaves_in_fields, leaves_in_payload}
use Rattle.cm_abi_model.specs.Receives.{owned_leaf, put, behind}
use Rattle.cm_abi_model.specs.Regions.{AreApart, ArePlaced}
use Rattle.cm_abi_model.specs.Requests.{CanStore, call_parts, is_spilled, tuple_of}
use Rattle.cm_abi_model.specs.Stores.{Given, Holds, IsBeside, place_of, stored}
use Rattle.cm_abi_model.specs.Views.{View, Way, flat_limit, implements}
use Rattle.cm_abi.specs.Received.{WasGiven, told_to}
use Rattle.cm_abi.proofs.HandleNumbers.{AreSmall, align_is, behind_is, cases_fit, flats_are}
use Rattle.cm_abi.proofs.HandleNumbers.{no_leaves, no_strings, numbered, numbered_each}
use Rattle.cm_abi.proofs.HandleNumbers.{numeric_fields, parts_are, size_is, slots_are}
use Rattle.cm_abi.proofs.HandleNumbers.{spellables_are, stored_is, two, typed_is}
use Rattle.cm_abi_model.proofs.OneAcross.{again}

-- ---- a call with numbers in the places of handles

small_is : (g : Given) → All (λ n. n < 2 ^ 32) g.numbers → AreSmall g
small_is g all j = elim (cases_lt j (length g.numbers)) [
  | inl below ↦ All-get_or (λ n. n < 2 ^ 32) g.numbers j 0 below all
  | inr past ↦ subst (λ n. n < 2 ^ 32) (sym (get_or_past g.numbers j 0 past)) (omega arith)
]

spilled_is : (way : Way) (types : Fields)
    → is_spilled way (numeric_fields types) ≡ is_spilled way types
spilled_is way types = ap (λ ks. nat_lt (flat_limit way) (length ks)) (flats_are types)

kinds_are : (way : Way) (types : Fields)
    → call_kinds way (numeric_fields types) ≡ call_kinds way types
kinds_are way types =
    two (λ b ks. if b then kind.I32 ∷ [] else ks) _ _ _ _ (spilled_is way types) (flats_are types)

numbers_are : (g : Given) (way : Way) (types : Fields) (v : Val) → HasType (tuple_of types) v
    → call_numbers g way (numeric_fields types) (numbered g v 0) ≡ call_numbers g way types v
numbers_are g way types v typed =
    two (λ b ns. if b then put 0 (place_of g 0) else ns) _ _ _ _ (spilled_is way types)
    (slots_are g (tuple_of types) v 0 0 0 0 0 0 refl refl typed)

bytes_are : (g : Given) (way : Way) (types : Fields) (v : Val) → HasType (tuple_of types) v
    → call_bytes g way (numeric_fields types) (numbered g v 0) ≡ call_bytes g way types v
bytes_are g way types v typed =
    two (λ b bs. if b then bs else behind g (tuple_of (numeric_fields types)) (numbered g v 0) 0 0)
    _ _ _ _ (spilled_is way types)
    (stored_is g (tuple_of types) v (place_of g 0) (place_of g 0) 1 1 0 0 refl refl typed)
    ∙ ap (λ bs. if is_spilled way types then stored g (tuple_of types) v (place_of g 0) 1 0 else bs)
    (behind_is g (tuple_of types) v 0 0 0 0 refl typed)

tuple_part_is : (types : Fields) → element_part 1 (size_of (tuple_of (numeric_fields types)))
    (align_of (tuple_of (numeric_fields types)))
    ≡ element_part 1 (size_of (tuple_of types)) (align_of (tuple_of types))
tuple_part_is types =
    two (element_part 1) _ _ _ _ (size_is (tuple_of types)) (align_is (tuple_of types))

parts_passed_are : (g : Given) (way : Way) (types : Fields) (v : Val) → HasType (tuple_of types) v
    → call_parts way (numeric_fields types) (numbered g v 0) ≡ call_parts way types v
parts_passed_are g way types v typed =
    let ps = parts_are g (tuple_of types) v 0 typed in
    two (λ b qs. if b then qs else parts_in (tuple_of (numeric_fields types)) (numbered g v 0)) _ _
    _ _ (spilled_is way types)
    (two (λ q qs. q ∷ qs) _ _ _ _ (tuple_part_is types) ps)
    ∙ ap (λ qs. if is_spilled way types then element_part 1 (size_of (tuple_of types))
    (align_of (tuple_of types)) ∷ parts_in (tuple_of types) v else qs) ps

received_as_numbers : (w : View) (way : Way) (types : Fields) (slots : List CoreValue) (g : Given)
    (v : Val)
    → WasGiven w way types slots g v → Receives w way (numeric_fields types) slots g
    (numbered g v 0)
received_as_numbers w way types slots g v given =
    let has = given.receives in
    let ps = parts_passed_are g way types v has.typed in
    let ns = numbers_are g way types v has.typed in
    record {
      typed = typed_is g (small_is g given.small) (tuple_of types) v 0 has.typed;
      stored_in = has.stored_in;
      numbers = record {
        of_kinds = has.numbers.of_kinds ∙ sym (kinds_are way types);
        numbers = subst (SlotsHold slots) (sym ns) has.numbers.numbers;
        others = λ k beside. has.numbers.others k (subst (IsBeside k) ns beside);
      };
      placed = subst (ArePlaced w.encoding (length w.memory) g 0) (sym ps) has.placed;
      apart = subst (AreApart w.encoding g 0) (sym ps) has.apart;
      bytes = subst (Holds w.memory) (sym (bytes_are g way types v has.typed)) has.bytes;
      handles = subst (AllStand w g 0) (sym (no_leaves g (tuple_of types) v 0 has.typed)) (tt {0});
    }

stored_still : (w : View) (types : Fields) → CanStore w.encoding types
    → CanStore w.encoding (numeric_fields types)
stored_still w types (inl is) = inl is
stored_still w types (inr none) = inr (no_strings types none)

serves_as_numbers : (w : View) (way : Way) (types : Fields) (slots : List CoreValue) (g : Given)
    (v : Val)
    → WasGiven w way types slots g v → Serves w way (numeric_fields types) g (numbered g v 0)
serves_as_numbers w way types slots g v given = record {
  stores = stored_still w types given.serves.stores;
  memory = given.serves.memory;
  table = given.serves.table;
  spellable = spellables_are types ∙ given.serves.spellable;
  cases = cases_fit g v 0 given.serves.cases;
}

-- what is received is denoted, and one value is
abbrev pub IsDenoted : Type 0
IsDenoted = (w : View) (way : Way) (types : Fields) (slots : List CoreValue) (g : Given) (v : Val)
    → Receives w way types slots g v → Serves w way types g v
    → NoneImplemented w (leaves_in (tuple_of types) v) → Passes w way types slots v

abbrev pub IsOneValue : Type 0
IsOneValue = (w : View) (way : Way) (types : Fields) (slots : List CoreValue) (u v : Val)
    → Denotes w way types slots u → Denotes w way types slots v → u ≡ v

passed_as_numbers : IsDenoted → (w : View) (way : Way) (types : Fields) (slots : List CoreValue)
    (g : Given) (v : Val)
    → WasGiven w way types slots g v → Passes w way (numeric_fields types) slots (numbered g v 0)
passed_as_numbers law w way types slots g v given =
    law w way (numeric_fields types) slots g (numbered g v 0)
    (received_as_numbers w way types slots g v given)
    (serves_as_numbers w way types slots g v given)
    (subst (NoneImplemented w) (sym (no_leaves g (tuple_of types) v 0 given.receives.typed))
    (tt {0}))

one_as_numbers : IsDenoted → IsOneValue
    → (w : View) (way : Way) (types : Fields) (slots : List CoreValue) (g k : Given) (u v : Val)
    → WasGiven w way types slots g u → WasGiven w way types slots k v
    → numbered g u 0 ≡ numbered k v 0
one_as_numbers law one w way types slots g k u v left right =
    one w way (numeric_fields types) slots _ _
    (passed_as_numbers law w way types slots g u left).denoted
    (passed_as_numbers law w way types slots k v right).denoted

-- ---- each number stands for one handle

abbrev entry : Handle → Option Handle → Handle
entry other None = other
entry other (Some h) = h

same_handle : (w : View) (n m : ℕ) (kind : HandleKind) (e d : HandleValue) → n ≡ m
    → HasHandle w n kind e → HasHandle w m kind d → e ≡ d
same_handle w n m kind e d same left right =
    let at : Handle =
    record { resource = e.resource; serial = e.serial; lends = 0; rep = e.rep; kind = kind } in
    ap (λ o. stands_for (entry at o)) (sym left ∙ ap (handle_at w.table) same ∙ right)

told_borrow : (w : View) (n m : ℕ) (e d : HandleValue) (b : Bool) → n ≡ m → e.resource ≡ d.resource
    → StandsForBorrow b w n e → StandsForBorrow b w m d
    → borrowed_leaf (if b then record e { serial = 0 } else e)
    ≡ borrowed_leaf (if b then record d { serial = 0 } else d)
told_borrow w n m e d true same of left right =
    two (λ r s. borrowed_leaf (record {
      serial =
          0;
      rep = r;
      resource = s;
    })) _ _ _ _ (sym left ∙ same ∙ right) of
told_borrow w n m e d false same of left right =
    ap borrowed_leaf (same_handle w n m (Borrowed w.call) e d same left right)

told_borrowed : (w : View) (n m : ℕ) (e d : HandleValue) → n ≡ m → e.resource ≡ d.resource
    → StandsForBorrow (implements w e.resource) w n e
    → StandsForBorrow (implements w d.resource) w m d
    → told_to w (borrowed_leaf e) ≡ told_to w (borrowed_leaf d)
told_borrowed w n m e d same of left right =
    let alike : implements w d.resource ≡ implements w e.resource = ap (implements w) (sym of) in
    told_borrow w n m e d (implements w e.resource) same of left
    (subst (λ b. StandsForBorrow b w m d) alike right)
    ∙ ap (λ b. borrowed_leaf (if b then record d { serial = 0 } else d)) (sym alike)

module _ (w : View) (g k : Given) where
  -- handles are told alike, and those behind them stand
  record Told (xs ys : List HandleLeaf) (m n h j : ℕ) (as' bs : List HandleLeaf) : Type 0 where
    alike : map (told_to w) xs ≡ map (told_to w) ys
    left : AllStand w g (h + m) as'
    right : AllStand w k (j + n) bs

  none_told : (h j : ℕ) (as' bs : List HandleLeaf) → AllStand w g h as' → AllStand w k j bs
      → Told [] [] 0 0 h j as' bs
  none_told h j as' bs left right = record {
    alike = refl;
    left = subst (λ i. AllStand w g i as') (omega arith) left;
    right = subst (λ i. AllStand w k i bs) (omega arith) right;
  }

  both_told : (xs ys us vs : List HandleLeaf) (m n o q h j : ℕ) (as' bs : List HandleLeaf)
      → map (told_to w) xs ≡ map (told_to w) ys
      → Told us vs o q (h + m) (j + n) as' bs
      → Told (xs ++ us) (ys ++ vs) (m + o) (n + q) h j as' bs
  both_told xs ys us vs m n o q h j as' bs first rest = record {
    alike =
        map-append (told_to w) xs us ∙ two (λ x y. x ++ y) _ _ _ _ first rest.alike
        ∙ sym (map-append (told_to w) ys vs);
    left = subst (λ i. AllStand w g i as') (omega arith) rest.left;
    right = subst (λ i. AllStand w k i bs) (omega arith) rest.right;
  }

  first_is : (a b : Val) (as' bs : Vals) → val a as' ≡ val b bs → (a ≡ b) × (as' ≡ bs)
  first_is a b as' bs e = (cc, cc)

  told_each : (t : Ty) → ((u v : Val) (h j : ℕ) (as' bs : List HandleLeaf) → HasType t u
      → HasType t v → numbered g u h ≡ numbered k v j
      → AllStand w g h (leaves_in t u ++ as') → AllStand w k j (leaves_in t v ++ bs)
      → Told (leaves_in t u) (leaves_in t v) (handle_count u) (handle_count v) h j as' bs)
      → (us vs : Vals) (h j : ℕ) (as' bs : List HandleLeaf) → AllVals (HasType t) us
      → AllVals (HasType t) vs → numbered_each g us h ≡ numbered_each k vs j
      → AllStand w g h (leaves_each (leaves_in t) us ++ as')
      → AllStand w k j (leaves_each (leaves_in t) vs ++ bs)
      → Told (leaves_each (leaves_in t) us) (leaves_each (leaves_in t) vs) (handle_count_each us)
      (handle_count_each vs) h j as' bs
  told_each t one no_vals no_vals h j as' bs x y e left right = none_told h j as' bs left right
  told_each t one no_vals (val v vs) h j as' bs x y e left right = absurd cc
  told_each t one (val u us) no_vals h j as' bs x y e left right = absurd cc
  told_each t one (val u us) (val v vs) h j as' bs x y e left right =
      let is = first_is _ _ _ _ e in
      let first =
      one u v h j (leaves_each (leaves_in t) us ++ as') (leaves_each (leaves_in t) vs ++ bs) x.0
      y.0 is.0
      (subst (AllStand w g h) (append_assoc (leaves_in t u) (leaves_each (leaves_in t) us) as')
      left)
      (subst (AllStand w k j) (append_assoc (leaves_in t v) (leaves_each (leaves_in t) vs) bs)
      right) in
      both_told _ _ _ _ (handle_count u) (handle_count v) _ _ h j as' bs first.alike
      (told_each t one us vs (h + handle_count u) (j + handle_count v) as' bs x.1 y.1 is.1
      first.left first.right)

  mutual
    told : (t : Ty) (u v : Val) (h j : ℕ) (as' bs : List HandleLeaf) → HasType t u → HasType t v
        → numbered g u h ≡ numbered k v j
        → AllStand w g h (leaves_in t u ++ as') → AllStand w k j (leaves_in t v ++ bs)
        → Told (leaves_in t u) (leaves_in t v) (handle_count u) (handle_count v) h j as' bs
    told bool (truth a) (truth b) h j as' bs x y e left right = none_told h j as' bs left right
    told bool (truth a) v h j as' bs x y e left right = absurd y
    told bool u v h j as' bs x y e left right = absurd x
    told (signed s) (signed_number a) (signed_number b) h j as' bs x y e left right =
        none_told h j as' bs left right
    told (signed s) (signed_number a) v h j as' bs x y e left right = absurd y
    told (signed s) u v h j as' bs x y e left right = absurd x
    told (unsigned s) (number a) (number b) h j as' bs x y e left right =
        none_told h j as' bs left right
    told (unsigned s) (number a) v h j as' bs x y e left right = absurd y
    told (unsigned s) u v h j as' bs x y e left right = absurd x
    told char (scalar a) (scalar b) h j as' bs x y e left right = none_told h j as' bs left right
    told char (scalar a) v h j as' bs x y e left right = absurd y
    told char u v h j as' bs x y e left right = absurd x
    told string (text a) (text b) h j as' bs x y e left right = none_told h j as' bs left right
    told string (text a) v h j as' bs x y e left right = absurd y
    told string u v h j as' bs x y e left right = absurd x
    told (list t) (elements us) (elements vs) h j as' bs x y e left right =
        told_each t (told t) us vs h j as' bs x y (cc) left right
    told (list t) (elements us) v h j as' bs x y e left right = absurd y
    told (list t) u v h j as' bs x y e left right = absurd x
    told (fixed_list t n) (parts us) (parts vs) h j as' bs x y e left right =
        told_each t (told t) us vs h j as' bs x.1 y.1 (cc) left right
    told (fixed_list t n) (parts us) v h j as' bs x y e left right = absurd y
    told (fixed_list t n) u v h j as' bs x y e left right = absurd x
    told (fields f fs) (parts us) (parts vs) h j as' bs x y e left right =
        told_fields fs us vs h j as' bs x y (cc) left right
    told (fields f fs) (parts us) v h j as' bs x y e left right = absurd y
    told (fields f fs) u v h j as' bs x y e left right = absurd x
    told (cases c cs) (bare a) (bare b) h j as' bs x y e left right =
        none_told h j as' bs left right
    told (cases c cs) (bare a) (bearing b v) h j as' bs x y e left right = absurd cc
    told (cases c cs) (bearing a u) (bare b) h j as' bs x y e left right = absurd cc
    told (cases c cs) (bearing a u) (bearing b v) h j as' bs x y e left right =
        told_carried cs a b u v h j as' bs (cc) x y (cc) left right
    told (cases c cs) (bare a) v h j as' bs x y e left right = absurd y
    told (cases c cs) (bearing a u) v h j as' bs x y e left right = absurd y
    told (cases c cs) u v h j as' bs x y e left right = absurd x
    told (flags ls) (flag_set a) (flag_set b) h j as' bs x y e left right =
        none_told h j as' bs left right
    told (flags ls) (flag_set a) v h j as' bs x y e left right = absurd y
    told (flags ls) u v h j as' bs x y e left right = absurd x
    told (own r) (handle a) (handle b) h j as' bs x y e left right = record {
      alike = ap (λ z. owned_leaf z ∷ []) (same_handle w _ _ Owned a b (cc) left.0 right.0);
      left = left.1;
      right = right.1;
    }
    told (own r) (handle a) v h j as' bs x y e left right = absurd y
    told (own r) u v h j as' bs x y e left right = absurd x
    told (borrow r) (handle a) (handle b) h j as' bs x y e left right = record {
      alike = ap (λ z. z ∷ []) (told_borrowed w _ _ a b (cc) (x ∙ sym y) left.0 right.0);
      left = left.1;
      right = right.1;
    }
    told (borrow r) (handle a) v h j as' bs x y e left right = absurd y
    told (borrow r) u v h j as' bs x y e left right = absurd x

    told_fields : (fs : Fields) (us vs : Vals) (h j : ℕ) (as' bs : List HandleLeaf)
        → HaveTypes fs us → HaveTypes fs vs → numbered_each g us h ≡ numbered_each k vs j
        → AllStand w g h (leaves_in_fields fs us ++ as')
        → AllStand w k j (leaves_in_fields fs vs ++ bs)
        → Told (leaves_in_fields fs us) (leaves_in_fields fs vs) (handle_count_each us)
        (handle_count_each vs) h j as' bs
    told_fields no_fields no_vals no_vals h j as' bs x y e left right =
        none_told h j as' bs left right
    told_fields no_fields no_vals (val v vs) h j as' bs x y e left right = absurd y
    told_fields no_fields (val u us) vs h j as' bs x y e left right = absurd x
    told_fields (field l t fs) no_vals vs h j as' bs x y e left right = absurd x
    told_fields (field l t fs) (val u us) no_vals h j as' bs x y e left right = absurd y
    told_fields (field l t fs) (val u us) (val v vs) h j as' bs x y e left right =
        let is = first_is _ _ _ _ e in
        let first =
        told t u v h j (leaves_in_fields fs us ++ as') (leaves_in_fields fs vs ++ bs) x.0 y.0
        is.0
        (subst (AllStand w g h) (append_assoc (leaves_in t u) (leaves_in_fields fs us) as') left)
        (subst (AllStand w k j) (append_assoc (leaves_in t v) (leaves_in_fields fs vs) bs) right) in
        both_told _ _ _ _ (handle_count u) (handle_count v) _ _ h j as' bs first.alike
        (told_fields fs us vs (h + handle_count u) (j + handle_count v) as' bs x.1 y.1 is.1
        first.left first.right)

    told_carried : (cs : Cases) (a b : ℕ) (u v : Val) (h j : ℕ) (as' bs : List HandleLeaf) → a ≡ b
        → IsCarriedCase cs a u → IsCarriedCase cs b v → numbered g u h ≡ numbered k v j
        → AllStand w g h (leaves_in_payload cs a u ++ as')
        → AllStand w k j (leaves_in_payload cs b v ++ bs)
        → Told (leaves_in_payload cs a u) (leaves_in_payload cs b v) (handle_count u)
        (handle_count v) h j as' bs
    told_carried no_cases a b u v h j as' bs same x y e left right = absurd x
    told_carried (plain l cs) zero b u v h j as' bs same x y e left right = absurd x
    told_carried (plain l cs) (suc a) zero u v h j as' bs same x y e left right = absurd y
    told_carried (plain l cs) (suc a) (suc b) u v h j as' bs same x y e left right =
        told_carried cs a b u v h j as' bs (omega (arith, same)) x y e left right
    told_carried (carrying l t cs) zero zero u v h j as' bs same x y e left right =
        told t u v h j as' bs x y e left right
    told_carried (carrying l t cs) zero (suc b) u v h j as' bs same x y e left right =
        absurd (omega (arith, same))
    told_carried (carrying l t cs) (suc a) zero u v h j as' bs same x y e left right =
        absurd (omega (arith, same))
    told_carried (carrying l t cs) (suc a) (suc b) u v h j as' bs same x y e left right =
        told_carried cs a b u v h j as' bs (omega (arith, same)) x y e left right

-- ---- with the same handles the values are the same

abbrev One : {A : Type 0} → A → A → List HandleLeaf → List HandleLeaf → Type 0
One a b as' bs = (a ≡ b) × (as' ≡ bs)

same_owned : (a b : HandleValue) (as' bs : List HandleLeaf) → owned_leaf a ∷ as' ≡ owned_leaf b ∷ bs
    → One (handle a) (handle b) as' bs
same_owned a b as' bs e = (cc, cc)

same_borrowed : (a b : HandleValue) (as' bs : List HandleLeaf)
    → borrowed_leaf a ∷ as' ≡ borrowed_leaf b ∷ bs → One (handle a) (handle b) as' bs
same_borrowed a b as' bs e = (cc, cc)

module _ (g k : Given) where
  one_each : (t : Ty) → ((u v : Val) (h j : ℕ) (as' bs : List HandleLeaf) → HasType t u
      → HasType t v → numbered g u h ≡ numbered k v j
      → leaves_in t u ++ as' ≡ leaves_in t v ++ bs → One u v as' bs)
      → (us vs : Vals) (h j : ℕ) (as' bs : List HandleLeaf) → AllVals (HasType t) us
      → AllVals (HasType t) vs → numbered_each g us h ≡ numbered_each k vs j
      → leaves_each (leaves_in t) us ++ as' ≡ leaves_each (leaves_in t) vs ++ bs → One us vs as' bs
  one_each t one no_vals no_vals h j as' bs x y e l = (refl, l)
  one_each t one no_vals (val v vs) h j as' bs x y e l = absurd cc
  one_each t one (val u us) no_vals h j as' bs x y e l = absurd cc
  one_each t one (val u us) (val v vs) h j as' bs x y e l =
      let head =
      one u v h j _ _ x.0 y.0 (cc) (again (leaves_in t u) (leaves_each (leaves_in t) us) as'
      (leaves_in t v) (leaves_each (leaves_in t) vs) bs l) in
      let tail =
      one_each t one us vs (h + handle_count u) (j + handle_count v) as' bs x.1 y.1 (cc)
      head.1 in
      (two val _ _ _ _ head.0 tail.0, tail.1)

  mutual
    pub one_value : (t : Ty) (u v : Val) (h j : ℕ) (as' bs : List HandleLeaf) → HasType t u
        → HasType t v → numbered g u h ≡ numbered k v j
        → leaves_in t u ++ as' ≡ leaves_in t v ++ bs → One u v as' bs
    one_value bool (truth a) (truth b) h j as' bs x y e l = (e, l)
    one_value bool (truth a) v h j as' bs x y e l = absurd y
    one_value bool u v h j as' bs x y e l = absurd x
    one_value (signed s) (signed_number a) (signed_number b) h j as' bs x y e l = (e, l)
    one_value (signed s) (signed_number a) v h j as' bs x y e l = absurd y
    one_value (signed s) u v h j as' bs x y e l = absurd x
    one_value (unsigned s) (number a) (number b) h j as' bs x y e l = (e, l)
    one_value (unsigned s) (number a) v h j as' bs x y e l = absurd y
    one_value (unsigned s) u v h j as' bs x y e l = absurd x
    one_value char (scalar a) (scalar b) h j as' bs x y e l = (e, l)
    one_value char (scalar a) v h j as' bs x y e l = absurd y
    one_value char u v h j as' bs x y e l = absurd x
    one_value string (text a) (text b) h j as' bs x y e l = (e, l)
    one_value string (text a) v h j as' bs x y e l = absurd y
    one_value string u v h j as' bs x y e l = absurd x
    one_value (list t) (elements us) (elements vs) h j as' bs x y e l =
        let all = one_each t (one_value t) us vs h j as' bs x y (cc) l in (ap elements all.0, all.1)
    one_value (list t) (elements us) v h j as' bs x y e l = absurd y
    one_value (list t) u v h j as' bs x y e l = absurd x
    one_value (fixed_list t n) (parts us) (parts vs) h j as' bs x y e l =
        let all =
        one_each t (one_value t) us vs h j as' bs x.1 y.1 (cc) l in (ap parts all.0, all.1)
    one_value (fixed_list t n) (parts us) v h j as' bs x y e l = absurd y
    one_value (fixed_list t n) u v h j as' bs x y e l = absurd x
    one_value (fields f fs) (parts us) (parts vs) h j as' bs x y e l =
        let all = one_fields fs us vs h j as' bs x y (cc) l in (ap parts all.0, all.1)
    one_value (fields f fs) (parts us) v h j as' bs x y e l = absurd y
    one_value (fields f fs) u v h j as' bs x y e l = absurd x
    one_value (cases c cs) (bare a) (bare b) h j as' bs x y e l = (e, l)
    one_value (cases c cs) (bare a) (bearing b v) h j as' bs x y e l = absurd cc
    one_value (cases c cs) (bearing a u) (bare b) h j as' bs x y e l = absurd cc
    one_value (cases c cs) (bearing a u) (bearing b v) h j as' bs x y e l =
        let carried =
        one_carried cs a b u v h j as' bs (cc) x y (cc) l in
        (two bearing a b u v (cc) carried.0, carried.1)
    one_value (cases c cs) (bare a) v h j as' bs x y e l = absurd y
    one_value (cases c cs) (bearing a u) v h j as' bs x y e l = absurd y
    one_value (cases c cs) u v h j as' bs x y e l = absurd x
    one_value (flags ls) (flag_set a) (flag_set b) h j as' bs x y e l = (e, l)
    one_value (flags ls) (flag_set a) v h j as' bs x y e l = absurd y
    one_value (flags ls) u v h j as' bs x y e l = absurd x
    one_value (own r) (handle a) (handle b) h j as' bs x y e l = same_owned a b as' bs l
    one_value (own r) (handle a) v h j as' bs x y e l = absurd y
    one_value (own r) u v h j as' bs x y e l = absurd x
    one_value (borrow r) (handle a) (handle b) h j as' bs x y e l = same_borrowed a b as' bs l
    one_value (borrow r) (handle a) v h j as' bs x y e l = absurd y
    one_value (borrow r) u v h j as' bs x y e l = absurd x

    one_fields : (fs : Fields) (us vs : Vals) (h j : ℕ) (as' bs : List HandleLeaf) → HaveTypes fs us
        → HaveTypes fs vs → numbered_each g us h ≡ numbered_each k vs j
        → leaves_in_fields fs us ++ as' ≡ leaves_in_fields fs vs ++ bs → One us vs as' bs
    one_fields no_fields no_vals no_vals h j as' bs x y e l = (refl, l)
    one_fields no_fields no_vals (val v vs) h j as' bs x y e l = absurd y
    one_fields no_fields (val u us) vs h j as' bs x y e l = absurd x
    one_fields (field n t fs) no_vals vs h j as' bs x y e l = absurd x
    one_fields (field n t fs) (val u us) no_vals h j as' bs x y e l = absurd y
    one_fields (field n t fs) (val u us) (val v vs) h j as' bs x y e l =
        let head =
        one_value t u v h j _ _ x.0 y.0 (cc)
        (again (leaves_in t u) (leaves_in_fields fs us) as' (leaves_in t v)
        (leaves_in_fields fs vs) bs l) in
        let tail =
        one_fields fs us vs (h + handle_count u) (j + handle_count v) as' bs x.1 y.1 (cc)
        head.1 in
        (two val _ _ _ _ head.0 tail.0, tail.1)

    one_carried : (cs : Cases) (a b : ℕ) (u v : Val) (h j : ℕ) (as' bs : List HandleLeaf) → a ≡ b
        → IsCarriedCase cs a u → IsCarriedCase cs b v → numbered g u h ≡ numbered k v j
        → leaves_in_payload cs a u ++ as' ≡ leaves_in_payload cs b v ++ bs → One u v as' bs
    one_carried no_cases a b u v h j as' bs same x y e l = absurd x
    one_carried (plain n cs) zero b u v h j as' bs same x y e l = absurd x
    one_carried (plain n cs) (suc a) zero u v h j as' bs same x y e l = absurd y
    one_carried (plain n cs) (suc a) (suc b) u v h j as' bs same x y e l =
        one_carried cs a b u v h j as' bs (omega (arith, same)) x y e l
    one_carried (carrying n t cs) zero zero u v h j as' bs same x y e l =
        one_value t u v h j as' bs x y e l
    one_carried (carrying n t cs) zero (suc b) u v h j as' bs same x y e l =
        absurd (omega (arith, same))
    one_carried (carrying n t cs) (suc a) zero u v h j as' bs same x y e l =
        absurd (omega (arith, same))
    one_carried (carrying n t cs) (suc a) (suc b) u v h j as' bs same x y e l =
        one_carried cs a b u v h j as' bs (omega (arith, same)) x y e l

-- ---- what is received

pub handles_told : IsDenoted → IsOneValue
    → (w : View) (way : Way) (types : Fields) (slots : List CoreValue) (g k : Given) (u v : Val)
    → WasGiven w way types slots g u → WasGiven w way types slots k v
    → map (told_to w) (leaves_in (tuple_of types) u)
    ≡ map (told_to w) (leaves_in (tuple_of types) v)
handles_told law one w way types slots g k u v left right =
    (told w g k (tuple_of types) u v 0 0 [] [] left.receives.typed right.receives.typed
    (one_as_numbers law one w way types slots g k u v left right)
    (subst (AllStand w g 0) (sym (append-nil (leaves_in (tuple_of types) u))) left.receives.handles)
    (subst (AllStand w k 0) (sym (append-nil (leaves_in (tuple_of types) v)))
    right.receives.handles)).alike

pub one_received : IsDenoted → IsOneValue
    → (w : View) (way : Way) (types : Fields) (slots : List CoreValue) (g k : Given) (u v : Val)
    → WasGiven w way types slots g u → WasGiven w way types slots k v
    → leaves_in (tuple_of types) u ≡ leaves_in (tuple_of types) v → u ≡ v
one_received law one w way types slots g k u v left right same =
    (one_value g k (tuple_of types) u v 0 0 [] [] left.receives.typed right.receives.typed
    (one_as_numbers law one w way types slots g k u v left right) (ap (λ ls. ls ++ []) same)).0
