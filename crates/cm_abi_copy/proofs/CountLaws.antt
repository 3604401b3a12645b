-- What core values denote is counted: its cases in 32 bits, and its handles one for one.
use Rattle.std.proofs.Common.{◌≡◌, ℕ, zero, suc, ◌+◌, ◌*◌, ◌%◌, ◌^◌, ◌<◌, Bool, true, false, List, ◌++◌, length, refl, subst, arith, inl, inr}
use Rattle.std.specs.Prelude.{if◌then◌else◌, nat_le, slice_index}
use Rattle.std.proofs.lemmas.List.{length-append}
use Rattle.cm_types.specs.declared.core_value.CoreValue.{CoreValue}
use Rattle.cm_types.specs.Types.{Ty, Fields, Cases, bool, signed, unsigned, char, string, list, fixed_list, fields, cases, flags, own, borrow, no_fields, field, no_cases, plain, carrying}
use Rattle.cm_types.specs.Values.{Val, Vals, no_vals, val, truth, signed_number, number, scalar, text, elements, parts, bare, bearing, flag_set, handle}
use Rattle.cm_layout.specs.Alignment.{align_to}
use Rattle.cm_layout.specs.Sizes.{align_of, case_count, discriminant_size, payload_offset, size_of}
use Rattle.cm_abi_model.specs.Denotes.{Denotes}
use Rattle.cm_abi_model.specs.FlatShows.{FlatShowFields, FlatShows, FlatShowsPayload, width_of}
use Rattle.cm_abi_model.specs.Numbers.{number_at, slot_at, wrapped_at}
use Rattle.cm_abi_model.specs.Parts.{AllCasesFit, CasesFit, handle_count, handle_count_each}
use Rattle.cm_abi_model.specs.Receives.{HandleLeaf, leaves_each, leaves_in, leaves_in_fields, leaves_in_payload}
use Rattle.cm_abi_model.specs.Requests.{tuple_of}
use Rattle.cm_abi_model.specs.Shows.{ShowEach, ShowFields, Shows, ShowsPayload}
use Rattle.cm_abi_model.specs.Views.{View, Way}

byte_below : (n b rest : ℕ) → b < 256 → rest < 256 ^ n → b + 256 * rest < 256 ^ (suc n)
byte_below n b rest small lt = omega (arith, small, lt)

number_below : (n : ℕ) (memory : List ℕ) (at : ℕ) → ((i : ℕ) → slice_index memory i < 2 ^ 8) → number_at n memory at < 256 ^ n
unfolding number_at
number_below zero memory at bytes = omega arith
number_below (suc n) memory at bytes = byte_below n (slice_index memory at) (number_at n memory (at + 1)) (bytes at) (number_below n memory (at + 1) bytes)

number_fits : (a b : Bool) (memory : List ℕ) (at : ℕ) → ((i : ℕ) → slice_index memory i < 2 ^ 8) → number_at (if a then 1 else if b then 2 else 4) memory at < 2 ^ 32
number_fits true b memory at bytes = let lt = number_below 1 memory at bytes in omega (arith, lt)
number_fits false true memory at bytes = let lt = number_below 2 memory at bytes in omega (arith, lt)
number_fits false false memory at bytes = let lt = number_below 4 memory at bytes in omega (arith, lt)

discriminant_fits : (n i : ℕ) (memory : List ℕ) (at : ℕ) → ((j : ℕ) → slice_index memory j < 2 ^ 8) → number_at (discriminant_size n) memory at ≡ i → i < 2 ^ 32
discriminant_fits n i memory at bytes is = subst (λ k. k < 2 ^ 32) is (number_fits (nat_le n 256) (nat_le n 65536) memory at bytes)

slot_fits : (s : List CoreValue) (k i : ℕ) → wrapped_at 4 s k ≡ i → i < 2 ^ 32
slot_fits s k i is = subst (λ j. j < 2 ^ 32) is (below (slot_at s k))
  where
    below : (n : ℕ) → n % 2 ^ (8 * 4) < 2 ^ 32
    below n = omega arith

-- the cases of a value fit 32 bits, and its handles are as many as it counts
abbrev pub Counted : List HandleLeaf → Val → Type 0
Counted leaves v = CasesFit v × (length leaves ≡ handle_count v)

abbrev pub AllCounted : List HandleLeaf → Vals → Type 0
AllCounted leaves vs = AllCasesFit vs × (length leaves ≡ handle_count_each vs)

both : (xs ys : List HandleLeaf) (v : Val) (vs : Vals) → Counted xs v → AllCounted ys vs → AllCounted (xs ++ ys) (val v vs)
both xs ys v vs a b = ((a.0, b.0), let one = a.1 in let more = b.1 in omega (arith, length-append xs ys, one, more))

each : (S : ℕ → Val → Type 0) (L : Val → List HandleLeaf) (size at : ℕ) (vs : Vals)
    → ((p : ℕ) (v : Val) → S p v → Counted (L v) v) → ShowEach S size at vs → AllCounted (leaves_each L vs) vs
each S L size at no_vals one h = (tt, refl)
each S L size at (val v vs) one h = both (L v) (leaves_each L vs) v vs (one at v h.0) (each S L size (at + size) vs one h.1)

module _ (w : View) (bytes : (i : ℕ) → slice_index w.memory i < 2 ^ 8) where
  mutual
    shown : (t : Ty) (p : ℕ) (v : Val) → Shows w t p v → Counted (leaves_in t v) v
    shown bool p (truth b) h = (tt, refl)
    shown (signed k) p (signed_number z) h = (tt, refl)
    shown (unsigned k) p (number n) h = (tt, refl)
    shown char p (scalar c) h = (tt, refl)
    shown string p (text cs) h = (tt, refl)
    shown (list t) p (elements vs) h = each (Shows w t) (leaves_in t) (size_of t) (number_at 4 w.memory p) vs (shown t) h.each
    shown (fixed_list t n) p (parts vs) h = each (Shows w t) (leaves_in t) (size_of t) p vs (shown t) h.1
    shown (fields k fs) p (parts vs) h = shown_fields fs p 0 vs h
    shown (cases k cs) p (bare i) h = (discriminant_fits (case_count cs) i w.memory p bytes h.0, refl)
    shown (cases k cs) p (bearing i v) h =
        let rest = shown_payload cs (p + payload_offset cs) i v h.1 in ((discriminant_fits (case_count cs) i w.memory p bytes h.0, rest.0), rest.1)
    shown (flags ls) p (flag_set n) h = (tt, refl)
    shown (own r) p (handle e) h = (tt, refl)
    shown (borrow r) p (handle e) h = (tt, refl)
    shown _ p _ h = absurd h

    shown_fields : (fs : Fields) (p end : ℕ) (vs : Vals) → ShowFields w fs p end vs → AllCounted (leaves_in_fields fs vs) vs
    shown_fields no_fields p end no_vals h = (tt, refl)
    shown_fields no_fields p end (val v vs) h = absurd h
    shown_fields (field l t fs) p end no_vals h = absurd h
    shown_fields (field l t fs) p end (val v vs) h =
        both (leaves_in t v) (leaves_in_fields fs vs) v vs (shown t (p + align_to (align_of t) end) v h.0) (shown_fields fs p (align_to (align_of t) end + size_of t) vs h.1)

    shown_payload : (cs : Cases) (p i : ℕ) (v : Val) → ShowsPayload w cs p i v → Counted (leaves_in_payload cs i v) v
    shown_payload no_cases p i v h = absurd h
    shown_payload (plain l cs) p zero v h = absurd h
    shown_payload (plain l cs) p (suc i) v h = shown_payload cs p i v h
    shown_payload (carrying l t cs) p zero v h = shown t p v h
    shown_payload (carrying l t cs) p (suc i) v h = shown_payload cs p i v h

  module _ (s : List CoreValue) where
    mutual
      flat : (t : Ty) (k : ℕ) (v : Val) → FlatShows w s t k v → Counted (leaves_in t v) v
      flat bool k (truth b) h = (tt, refl)
      flat (signed b) k (signed_number z) h = (tt, refl)
      flat (unsigned b) k (number n) h = (tt, refl)
      flat char k (scalar c) h = (tt, refl)
      flat string k (text cs) h = (tt, refl)
      flat (list t) k (elements vs) h = each (Shows w t) (leaves_in t) (size_of t) (wrapped_at 4 s k) vs (shown t) h.each
      flat (fixed_list t n) k (parts vs) h = each (FlatShows w s t) (leaves_in t) (width_of t) k vs (flat t) h.1
      flat (fields f fs) k (parts vs) h = flat_fields fs k vs h
      flat (cases c cs) k (bare i) h = (slot_fits s k i h.0, refl)
      flat (cases c cs) k (bearing i v) h = let rest = flat_payload cs (k + 1) i v h.1 in ((slot_fits s k i h.0, rest.0), rest.1)
      flat (flags ls) k (flag_set n) h = (tt, refl)
      flat (own r) k (handle e) h = (tt, refl)
      flat (borrow r) k (handle e) h = (tt, refl)
      flat _ k _ h = absurd h

      flat_fields : (fs : Fields) (k : ℕ) (vs : Vals) → FlatShowFields w s fs k vs → AllCounted (leaves_in_fields fs vs) vs
      flat_fields no_fields k no_vals h = (tt, refl)
      flat_fields no_fields k (val v vs) h = absurd h
      flat_fields (field l t fs) k no_vals h = absurd h
      flat_fields (field l t fs) k (val v vs) h =
          both (leaves_in t v) (leaves_in_fields fs vs) v vs (flat t k v h.0) (flat_fields fs (k + width_of t) vs h.1)

      flat_payload : (cs : Cases) (k i : ℕ) (v : Val) → FlatShowsPayload w s cs k i v → Counted (leaves_in_payload cs i v) v
      flat_payload no_cases k i v h = absurd h
      flat_payload (plain l cs) k zero v h = absurd h
      flat_payload (plain l cs) k (suc i) v h = flat_payload cs k i v h
      flat_payload (carrying l t cs) k zero v h = flat t k v h
      flat_payload (carrying l t cs) k (suc i) v h = flat_payload cs k i v h

pub counted : (w : View) (way : Way) (types : Fields) (slots : List CoreValue) (v : Val) → ((i : ℕ) → slice_index w.memory i < 2 ^ 8) → Denotes w way types slots v
    → Counted (leaves_in (tuple_of types) v) v
counted w way types slots v bytes h = elim h [
  | inl x ↦ flat w bytes slots (tuple_of types) 0 v x.shown
  | inr x ↦ shown w bytes (tuple_of types) (wrapped_at 4 slots 0) v x.shown
]
