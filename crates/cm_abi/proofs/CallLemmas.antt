-- What core values pass the values of a call.
use Rattle.std.proofs.Common.{◌≡◌, ℕ, zero, suc, ◌+◌, ◌^◌, ◌<◌, ◌≤◌, Bool, true, false, List, [], ◌∷◌, length, subst, arith, get_or}
use Rattle.std.specs.List.{All}
use Rattle.std.specs.Prelude.{if◌then◌else◌}
use Rattle.cm_types.specs.declared.core_value.CoreKind.TheVariants as kind
use Rattle.cm_types.specs.Spellable.{are_spellable}
use Rattle.cm_types.specs.Types.{Fields}
use Rattle.cm_types.specs.Values.{HasType, Vals, parts}
use Rattle.cm_layout.specs.Flattening.{flat_of_fields}
use Rattle.cm_layout.specs.Sizes.{align_of, size_of}
use Rattle.cm_abi_model.specs.declared.encoding.StringEncoding.{StringEncoding}
use Rattle.cm_abi_model.specs.Parts.{CasesFit, Part, element_part, parts_in, text_part}
use Rattle.cm_abi_model.specs.Receives.{call_kinds, call_numbers, put, slots_of}
use Rattle.cm_abi_model.specs.Regions.{ArePlaced}
use Rattle.cm_abi_model.specs.Requests.{call_parts, is_spilled, stored_charset, tuple_of}
use Rattle.cm_abi_model.specs.Stores.{Given, number_of, place_of}
use Rattle.cm_abi_model.specs.Views.{Way}
use Rattle.cm_abi_model.specs.Answering.{AreCounted, HaveScalars}
use Rattle.cm_abi.proofs.PokeLemmas.{PutsIn, covers_all, put_one}
use Rattle.cm_abi.proofs.PutLemmas.{AreShort, fields_puts}

small_at : (bound : ℕ) (xs : List ℕ) → 0 < bound → ((k : ℕ) → k < length xs → get_or xs k 0 < bound) → (k : ℕ) → get_or xs k 0 < bound
small_at bound [] some each k = some
small_at bound (x ∷ xs) some each zero = each 0 (omega arith)
small_at bound (x ∷ xs) some each (suc k) = small_at bound xs some (λ j lt. each (suc j) (omega (arith, lt))) k

pub numbers_small : (g : Given) → All (λ n. n < 2 ^ 32) g.numbers → (h : ℕ) → number_of g h < 2 ^ 32
numbers_small g all = small_at (2 ^ 32) g.numbers (omega arith) (λ k lt. all k 0 lt)

placed_low : (target : StringEncoding) (n : ℕ) (g : Given) (j : ℕ) (ps : List Part) → ArePlaced target n g j ps → (k : ℕ) → k < length ps → place_of g (j + k) ≤ n
placed_low target n g j [] h k lt = absurd (omega (arith, lt))
placed_low target n g j (p ∷ ps) h zero lt = let e : j ≡ j + 0 = omega arith in subst (λ i. place_of g i ≤ n) e (omega (arith, h.0.inside))
placed_low target n g j (p ∷ ps) h (suc k) lt = let e : j + 1 + k ≡ j + suc k = omega arith in subst (λ i. place_of g i ≤ n) e (placed_low target n g (j + 1) ps h.1 k (omega (arith, lt)))

places_small : (target : StringEncoding) (n : ℕ) (g : Given) (ps : List Part) → n < 2 ^ 32 → length g.places ≡ length ps → ArePlaced target n g 0 ps → (k : ℕ) → place_of g k < 2 ^ 32
places_small target n g ps few counted h =
    small_at (2 ^ 32) g.places (omega arith)
    (λ k lt. let e : 0 + k ≡ k = omega arith in
    let low : place_of g k ≤ n = subst (λ i. place_of g i ≤ n) e (placed_low target n g 0 ps h k (omega (arith, lt, counted))) in omega (arith, low, few))

short_placed : (target : StringEncoding) (n : ℕ) (g : Given) (j : ℕ) (ps : List Part) → n < 2 ^ 32 → ArePlaced target n g j ps → AreShort (stored_charset target) ps
short_placed target n g j [] few h = tt {0}
short_placed target n g j (text_part cs ∷ ps) few h = (omega (arith, h.0.inside, few), short_placed target n g (j + 1) ps few h.1)
short_placed target n g j (element_part count size align ∷ ps) few h = (h.0.counted, short_placed target n g (j + 1) ps few h.1)

short_right : (target : StringEncoding) (b : Bool) (p : Part) (ps : List Part) → AreShort (stored_charset target) (if b then p ∷ ps else ps) → AreShort (stored_charset target) ps
short_right target false p ps h = h
short_right target true (text_part cs) ps h = h.1
short_right target true (element_part count size align) ps h = h.1

pub call_puts : (way : Way) (types : Fields) (vs : Vals) (target : StringEncoding) (n : ℕ) (g : Given) → g.charset ≡ stored_charset target → n < 2 ^ 32
    → HasType (tuple_of types) (parts vs) → CasesFit (parts vs) → are_spellable types ≡ true → ArePlaced target n g 0 (call_parts way types (parts vs))
    → length g.places ≡ length (call_parts way types (parts vs)) → All (λ m. m < 2 ^ 32) g.numbers
    → (e : ℕ) × PutsIn (call_kinds way types) 0 e (call_numbers g way types (parts vs))
call_puts way types vs target n g charset few typed cases ok placed counted small = by_case (is_spilled way types)
  where
    low : (k : ℕ) → place_of g k < 2 ^ 32
    low = places_small target n g (call_parts way types (parts vs)) few counted placed

    short : AreShort g.charset (parts_in (tuple_of types) (parts vs))
    short = rw charset (short_right target (is_spilled way types) (element_part 1 (size_of (tuple_of types)) (align_of (tuple_of types))) (parts_in (tuple_of types) (parts vs))
        (short_placed target n g 0 (call_parts way types (parts vs)) few placed))

    by_case : (b : Bool)
        → (e : ℕ) × PutsIn (if b then kind.I32 ∷ [] else flat_of_fields types) 0 e (if b then put 0 (place_of g 0) else slots_of g (tuple_of types) (parts vs) 0 0 0)
    by_case true = (0 + 1, put_one (kind.I32 ∷ []) 0 kind.I32 [] (place_of g 0) (covers_all (kind.I32 ∷ [])) (low 0))
    by_case false = (0 + length (flat_of_fields types), fields_puts (flat_of_fields types) g low (numbers_small g small) types ok vs 0 0 0 typed cases short (covers_all (flat_of_fields types)))

-- ---- the parts of a call

pub call_scalars : (source : StringEncoding) (tags : List Bool) (way : Way) (types : Fields) (vs : Vals) → HaveScalars source tags (parts_in (tuple_of types) (parts vs))
    → HaveScalars source tags (call_parts way types (parts vs))
call_scalars source tags way types vs h = by_case (is_spilled way types)
  where
    by_case : (b : Bool)
        → HaveScalars source tags (if b then element_part 1 (size_of (tuple_of types)) (align_of (tuple_of types)) ∷ parts_in (tuple_of types) (parts vs) else parts_in (tuple_of types) (parts vs))
    by_case true = (tt {0}, h)
    by_case false = h

pub call_counted : (way : Way) (types : Fields) (vs : Vals) → AreCounted (parts_in (tuple_of types) (parts vs)) → AreCounted (call_parts way types (parts vs))
call_counted way types vs h = by_case (is_spilled way types)
  where
    by_case : (b : Bool)
        → AreCounted (if b then element_part 1 (size_of (tuple_of types)) (align_of (tuple_of types)) ∷ parts_in (tuple_of types) (parts vs) else parts_in (tuple_of types) (parts vs))
    by_case true = (omega arith, h)
    by_case false = h
