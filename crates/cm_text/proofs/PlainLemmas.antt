-- Units of UTF-16 that are no surrogates.
use Rattle.std.proofs.Common.{◌≡◌, ℕ, ◌+◌, ◌*◌, ◌-◌, ◌/◌, ◌%◌, ◌<◌, ◌≤◌, Bool, true, false, cond, List, [], ◌∷◌, ◌++◌, length, take, drop, refl, sym, ap, ◌∙◌, arith, zero, suc, append_assoc, Fits, w8}
use Rattle.std.proofs.lemmas.Bool.Decides.{nat_tests}
use Rattle.std.proofs.lemmas.List.{take-append-drop, take-take, drop-drop, take_rest}
use Rattle.std.proofs.lemmas.List.Concat.{flat_map-append}
use Rattle.std.specs.Char.{IsScalar}
use Rattle.std.specs.List.{AllByRecursion, flat_map, prefix_len}
use lib.Lanes.{Each1, chunk}
use Rattle.cm_text.specs.Utf16.{unit, units, bytes_of_unit, spell_utf16}
use Rattle.cm_text.specs.Lanes.{second_bytes, is_plain}
use Rattle.cm_text.specs.Utf16Laws.{one_unit}
use Rattle.cm_lemmas.proofs.Lists.{all_numbers_joined}

-- the bytes before a place are scalars
pub record Plain (bytes : List ℕ) (at : ℕ) : Type 0 where
  pub scalars : List ℕ
  pub within : at ≤ length bytes
  pub all : AllByRecursion IsScalar scalars
  pub split : bytes ≡ flat_map spell_utf16 scalars ++ drop at bytes

plain_scalar : (low high : ℕ) → low < 256 → high < 256 → is_plain high ≡ true → IsScalar (unit low high)
plain_scalar low high l h plain = grind (arith, nat_tests)

plain_spelled : (low high : ℕ) → low < 256 → high < 256 → spell_utf16 (unit low high) ≡ low ∷ high ∷ []
plain_spelled low high l h =
    let first : unit low high % 256 ≡ low = omega arith in
    let second : unit low high / 256 ≡ high = omega arith in
    ap (flat_map bytes_of_unit) (one_unit (unit low high) (omega arith)) ∙ ap (λ a. a ∷ (unit low high / 256) ∷ []) first ∙ ap (λ b. low ∷ b ∷ []) second

-- a run goes on with a unit that passes
run_goes_on : (b : Bool) (k n : ℕ) → suc k ≤ cond b (1 + n) 0 → (b ≡ true) × (k ≤ n)
run_goes_on true k n le = (refl, omega arith)
run_goes_on false k n le = absurd (omega arith)

-- units of a run of plain ones
pub record PlainUnits (n : ℕ) (xs : List ℕ) : Type 0 where
  pub all : AllByRecursion IsScalar (take n (units xs))
  pub spelled : flat_map spell_utf16 (take n (units xs)) ≡ take (2 * n) xs

pub plain_units : (n : ℕ) (xs : List ℕ) → Each1 (Fits w8) xs → n ≤ prefix_len is_plain (second_bytes xs) → PlainUnits n xs
plain_units zero xs fits le = record { all = tt; spelled = refl }
plain_units (suc n) [] fits le = absurd (omega arith)
plain_units (suc n) (x ∷ []) fits le = absurd (omega arith)
plain_units (suc n) (x ∷ y ∷ xs) fits le =
    let on = run_goes_on (is_plain y) n (prefix_len is_plain (second_bytes xs)) le in
    let more = plain_units n xs fits.1.1 on.1 in
    let low : x < 256 = fits.0.fits in
    let high : y < 256 = fits.1.0.fits in
    record {
      all = (plain_scalar x y low high on.0, more.all);
      spelled = ap (λ ys. ys ++ flat_map spell_utf16 (take n (units xs))) (plain_spelled x y low high) ∙ ap (λ ys. x ∷ y ∷ ys) more.spelled
          ∙ ap (λ k. take k (x ∷ y ∷ xs)) {x = suc (suc (2 * n))} {y = 2 * suc n} (omega arith);
    }

-- a block of plain units further, or the plain front of a block
pub plain_on : (bytes : List ℕ) (at run : ℕ) → Plain bytes at → Each1 (Fits w8) (chunk at 32 bytes) → at + 32 ≤ length bytes → run ≤ 16
    → run ≤ prefix_len is_plain (second_bytes (chunk at 32 bytes)) → Plain bytes (at + 2 * run)
plain_on bytes at run so_far fits within few le =
    let xs = chunk at 32 bytes in
    let more = plain_units run xs fits le in
    let us = take run (units xs) in
    let front : take (2 * run) xs ≡ take (2 * run) (drop at bytes) = take-take (2 * run) 32 (drop at bytes) (omega arith) in
    let block : drop at bytes ≡ flat_map spell_utf16 us ++ drop (at + 2 * run) bytes =
    sym (take-append-drop (2 * run) (drop at bytes))
    ∙ ap (λ ys. ys ++ drop (2 * run) (drop at bytes)) (sym (more.spelled ∙ front))
    ∙ ap (λ ys. flat_map spell_utf16 us ++ ys) (drop-drop (2 * run) at bytes) in
    record {
      scalars = so_far.scalars ++ us;
      within = omega arith;
      all = all_numbers_joined IsScalar so_far.scalars us so_far.all more.all;
      split = so_far.split ∙ ap (λ ys. flat_map spell_utf16 so_far.scalars ++ ys) block
          ∙ sym (append_assoc (flat_map spell_utf16 so_far.scalars) (flat_map spell_utf16 us) (drop (at + 2 * run) bytes))
          ∙ ap (λ ys. ys ++ drop (at + 2 * run) bytes) (sym (flat_map-append spell_utf16 so_far.scalars us));
    }

-- the bytes before a place are scalars, and the rest is what a slice from there on holds
pub front_of : (bytes : List ℕ) (at : ℕ) → Plain bytes at
    → (scalars : List ℕ) × AllByRecursion IsScalar scalars × (bytes ≡ flat_map spell_utf16 scalars ++ take (length bytes - at) (drop at bytes))
front_of bytes at p = (p.scalars, p.all, p.split ∙ ap (λ ys. flat_map spell_utf16 p.scalars ++ ys) (sym (take_rest bytes at)))
