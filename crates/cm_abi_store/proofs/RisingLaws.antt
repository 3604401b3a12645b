-- The numbers that pass a value stand in slots one behind the other, so that each stays.
use Rattle.std.proofs.Common.{◌≡◌, ℕ, zero, suc, ◌+◌, ◌*◌, ◌<◌, ◌≤◌, Bool, true, false, List, [], ◌∷◌, ◌++◌, length, refl, ◌∙◌, arith, length-append}
use Rattle.std.specs.Prelude.{slice_index, slice_set, if◌then◌else◌}
use Rattle.cm_types.specs.declared.core_value.CoreKind.TheVariants as kind
use Rattle.cm_types.specs.Types.{Ty, Fields, Cases, bool, signed, unsigned, char, string, list, fixed_list, fields, cases, flags, own, borrow, no_fields, field, no_cases, plain, carrying}
use Rattle.cm_types.specs.Values.{Val, Vals, no_vals, val, truth, signed_number, number, scalar, text, elements, parts, bare, bearing, flag_set, handle, count_of, AllVals, HasType, HaveTypes, IsCarriedCase}
use Rattle.cm_layout.specs.Flattening.{flat_of, flat_of_cases, flat_of_fields, join_slots}
use Rattle.cm_abi_model.specs.FlatShows.{width_of}
use Rattle.cm_abi_model.specs.Parts.{handle_count, part_count}
use Rattle.cm_abi_model.specs.Receives.{call_kinds, call_numbers, put, slots_of, slots_of_fields, slots_of_payload}
use Rattle.cm_abi_model.specs.Requests.{is_spilled, tuple_of}
use Rattle.cm_abi_model.specs.Stores.{Framed, Given, Holds, IsBeside, Placed, Storing, place_of, poke, store_each}
use Rattle.cm_abi_model.specs.Views.{Way}
use Rattle.cm_abi_store.proofs.BytesLemmas.{set_length}
use Rattle.cm_abi_store.proofs.PassedLaws.{joined}
use Rattle.cm_abi_model.proofs.StoredOnce.{stays, poke_length}
use Rattle.cm_layout.proofs.WidthLaws.{copies_long}

-- each stands behind the one before it, from one place on and before another
abbrev Rises : ℕ → ℕ → List Placed → Type 0
Rises s e [] = s ≤ e
Rises s e (x ∷ xs) = (s ≤ x.0) × Rises (x.0 + 1) e xs

lower : (s m e : ℕ) (xs : List Placed) → s ≤ m → Rises m e xs → Rises s e xs
lower s m e [] le rises = omega (arith, le, rises)
lower s m e (x ∷ xs) le rises = (omega (arith, le, rises.0), rises.1)

upper : (s m e : ℕ) (xs : List Placed) → m ≤ e → Rises s m xs → Rises s e xs
upper s m e [] le rises = omega (arith, le, rises)
upper s m e (x ∷ xs) le rises = (rises.0, upper (x.0 + 1) m e xs le rises.1)

both : (s m e : ℕ) (xs ys : List Placed) → Rises s m xs → Rises m e ys → Rises s e (xs ++ ys)
both s m e [] ys first rest = lower s m e ys first rest
both s m e (x ∷ xs) ys first rest = (first.0, both (x.0 + 1) m e xs ys first.1 rest)

each_rises : (S : Storing) (Q : Val → Type 0) (width : ℕ) (vs : Vals) (s k h : ℕ) → ((v : Val) (s k h : ℕ) → Q v → Rises s (s + width) (S v s k h)) → AllVals Q vs
    → Rises s (s + count_of vs * width) (store_each S width vs s k h)
each_rises S Q width no_vals s k h one all = omega arith
each_rises S Q width (val v vs) s k h one all =
    let rest = each_rises S Q width vs (s + width) (k + part_count v) (h + handle_count v) one all.1 in
    let end : s + width + count_of vs * width ≤ s + (1 + count_of vs) * width = omega arith in
    both s (s + width) (s + (1 + count_of vs) * width) (S v s k h) _ (one v s k h all.0) (upper (s + width) (s + width + count_of vs * width) (s + (1 + count_of vs) * width) _ end rest)

mutual
  slots_rise : (g : Given) (t : Ty) (v : Val) (s k h : ℕ) → HasType t v → Rises s (s + width_of t) (slots_of g t v s k h)
  slots_rise g bool (truth b) s k h typed = (omega arith, omega arith)
  slots_rise g (signed w) (signed_number z) s k h typed = (omega arith, omega arith)
  slots_rise g (unsigned w) (number n) s k h typed = (omega arith, omega arith)
  slots_rise g char (scalar c) s k h typed = (omega arith, omega arith)
  slots_rise g string (text cs) s k h typed = (omega arith, (omega arith, omega arith))
  slots_rise g (list t) (elements vs) s k h typed = (omega arith, (omega arith, omega arith))
  slots_rise g (fixed_list t n) (parts vs) s k h typed =
      let end : s + count_of vs * width_of t ≤ s + width_of (fixed_list t n) = rw (typed.0, copies_long n (flat_of t)) (omega arith) in
      upper s _ _ _ end (each_rises (slots_of g t) (HasType t) (width_of t) vs s k h (slots_rise g t) typed.1)
  slots_rise g (fields kind fs) (parts vs) s k h typed = fields_rise g fs vs s k h typed
  slots_rise g (cases kind cs) (bare i) s k h typed = (omega arith, omega arith)
  slots_rise g (cases kind cs) (bearing i v) s k h typed =
      (omega arith, upper (s + 1) (s + 1 + length (flat_of_cases cs)) _ _ (omega arith) (case_rises g cs i v (s + 1) k h typed))
  slots_rise g (flags ls) (flag_set n) s k h typed = (omega arith, omega arith)
  slots_rise g (own r) (handle e) s k h typed = (omega arith, omega arith)
  slots_rise g (borrow r) (handle e) s k h typed = (omega arith, omega arith)
  slots_rise g _ _ s k h typed = absurd typed

  fields_rise : (g : Given) (fs : Fields) (vs : Vals) (s k h : ℕ) → HaveTypes fs vs → Rises s (s + length (flat_of_fields fs)) (slots_of_fields g fs vs s k h)
  fields_rise g no_fields vs s k h typed = omega arith
  fields_rise g (field l t fs) no_vals s k h typed = absurd typed
  fields_rise g (field l t fs) (val v vs) s k h typed =
      let end : s + width_of t + length (flat_of_fields fs) ≤ s + length (flat_of t ++ flat_of_fields fs) = omega (arith, length-append (flat_of t) (flat_of_fields fs)) in
      both s (s + width_of t) (s + length (flat_of t ++ flat_of_fields fs)) (slots_of g t v s k h) _ (slots_rise g t v s k h typed.0)
      (upper (s + width_of t) (s + width_of t + length (flat_of_fields fs)) _ _ end (fields_rise g fs vs (s + width_of t) (k + part_count v) (h + handle_count v) typed.1))

  case_rises : (g : Given) (cs : Cases) (i : ℕ) (v : Val) (s k h : ℕ) → IsCarriedCase cs i v → Rises s (s + length (flat_of_cases cs)) (slots_of_payload g cs i v s k h)
  case_rises g no_cases i v s k h typed = absurd typed
  case_rises g (plain l cs) zero v s k h typed = absurd typed
  case_rises g (plain l cs) (suc i) v s k h typed = case_rises g cs i v s k h typed
  case_rises g (carrying l t cs) zero v s k h typed =
      let wide = (joined (flat_of t) (flat_of_cases cs)).0 in
      upper s (s + width_of t) (s + length (join_slots (flat_of t) (flat_of_cases cs))) _ (omega (arith, wide)) (slots_rise g t v s k h typed)
  case_rises g (carrying l t cs) (suc i) v s k h typed =
      let wide = (joined (flat_of t) (flat_of_cases cs)).1 in
      upper s (s + length (flat_of_cases cs)) (s + length (join_slots (flat_of t) (flat_of_cases cs))) _ (omega (arith, wide)) (case_rises g cs i v s k h typed)

-- ---- what rises stays

pub set_same : (m : List ℕ) (i x : ℕ) → i < length m → slice_index (slice_set m i x) i ≡ x
set_same [] i x lt = absurd (omega (arith, lt))
set_same (y ∷ m) zero x lt = refl
set_same (y ∷ m) (suc i) x lt = set_same m i x (omega (arith, lt))

before_is_beside : (s e p : ℕ) (xs : List Placed) → p < s → Rises s e xs → IsBeside p xs
before_is_beside s e p [] lt rises = tt
before_is_beside s e p (x ∷ xs) lt rises =
    ((λ same. absurd (omega (arith, lt, rises.0, same))), before_is_beside (x.0 + 1) e p xs (omega (arith, lt, rises.0)) rises.1)

rises_end : (s e : ℕ) (xs : List Placed) → Rises s e xs → s ≤ e
rises_end s e [] rises = rises
rises_end s e (x ∷ xs) rises = let rest = rises_end (x.0 + 1) e xs rises.1 in omega (arith, rest, rises.0)

holds : (s e : ℕ) (xs : List Placed) (m : List ℕ) → Rises s e xs → e ≤ length m → Holds (poke xs m) xs
holds s e [] m rises inside = tt
holds s e (x ∷ xs) m rises inside =
    let end = rises_end (x.0 + 1) e xs rises.1 in
    let room : e ≤ length (slice_set m x.0 x.1) = rw (set_length m x.0 x.1) inside in (
      stays xs (slice_set m x.0 x.1) x.0 (before_is_beside (x.0 + 1) e x.0 xs (omega arith) rises.1) ∙ set_same m x.0 x.1 (omega (arith, end, inside)),
      holds (x.0 + 1) e xs (slice_set m x.0 x.1) rises.1 room,
    )

call_rises : (g : Given) (types : Fields) (v : Val) (b : Bool) → HasType (tuple_of types) v
    → Rises 0 (length (if b then kind.I32 ∷ [] else flat_of_fields types)) (if b then put 0 (place_of g 0) else slots_of g (tuple_of types) v 0 0 0)
call_rises g types v true typed = (omega arith, omega arith)
call_rises g types v false typed = upper 0 (0 + width_of (tuple_of types)) _ _ (omega arith) (slots_rise g (tuple_of types) v 0 0 0 typed)

pub numbers_stay : (way : Way) (types : Fields) (g : Given) (v : Val) (slots : List ℕ) → HasType (tuple_of types) v → length (call_kinds way types) ≤ length slots
    → Holds (poke (call_numbers g way types v) slots) (call_numbers g way types v) × Framed slots (poke (call_numbers g way types v) slots) (call_numbers g way types v)
numbers_stay way types g v slots typed room = (
  holds 0 _ (call_numbers g way types v) slots (call_rises g types v (is_spilled way types) typed) room,
  record { length_stays = poke_length (call_numbers g way types v) slots; others_stay = λ at beside. stays (call_numbers g way types v) slots at beside },
)
