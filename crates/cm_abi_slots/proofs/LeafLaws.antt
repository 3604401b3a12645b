-- What the core value of a leaf becomes is what passes its value on.
use Rattle.std.proofs.Common.{◌≡◌, ℕ, pos, ◌+◌, ◌*◌, ◌-◌, ◌%◌, ◌^◌, ◌<◌, inl, inr, ◌==◌, not, refl, sym, ap, subst, ◌∙◌, arith}
use Rattle.std.proofs.Math.Nat.{mod-eq_of_lt}
use Rattle.std.proofs.lemmas.Bool.{cases_lt, lt-ltb, le-ltb}
use Rattle.std.proofs.lemmas.Int.{ints}
use Rattle.std.proofs.lemmas.Nat.{mod_below}
use Rattle.std.proofs.Math.Pow.{pow_mono}
use Rattle.std.specs.Prelude.{nat_lt, if◌then◌else◌, neg_ℤ, ⊤, ◌≤ℤ◌, ◌<ℤ◌}
use Rattle.cm_types.specs.declared.core_value.CoreKind.{CoreKind}
use Rattle.cm_types.specs.declared.core_value.CoreKind.TheVariants as kind
use Rattle.cm_types.specs.declared.core_value.CoreValue.{CoreValue}
use Rattle.cm_types.specs.declared.core_value.CoreValue.TheVariants as core_value
use Rattle.cm_types.specs.CoreValues.{kind_of}
use Rattle.cm_types.specs.Types.{Width, bits_8, bits_16, bits_32, bits_64, width_bytes}
use Rattle.cm_types.specs.Values.{FitsSignedWidth, FitsWidth, IsScalarValue}
use Rattle.cm_layout.specs.Flattening.{number_kind}
use Rattle.cm_layout.specs.declared.layouts.Leaf.TheVariants as leaf
use Rattle.cm_abi_model.specs.Numbers.{as_signed, slot_number}
use Rattle.cm_abi_model.specs.Receives.{slot_bytes}
use Rattle.cm_abi_model.specs.Stores.{from_signed}
use Rattle.cm_abi_slots.specs.declared.steps.SlotStep.TheVariants as step
use Rattle.cm_abi_slots.specs.Passing.{FitsKind, IsFine, passed_by}
use Rattle.cm_abi_slots.specs.Steps.{step_of}
use Rattle.cm_abi_slots.proofs.NumberLemmas.{signed_again}
use Rattle.cm_lemmas.proofs.Numbers.{whole_word}

abbrev Is32 : CoreKind → Type 0
Is32 kind.I32 = ⊤
Is32 kind.I64 = ⊥

no_64 : kind.I64 ≡ kind.I32 → ⊥
no_64 e = subst Is32 (sym e) tt

no_32 : kind.I32 ≡ kind.I64 → ⊥
no_32 e = subst Is32 e tt

-- ---- bools, chars and flags

pub truth_passed : (c : CoreValue) → kind_of c ≡ kind.I32 → FitsKind c
    → (if not (slot_number c % 2 ^ 32 == 0) then 1 else 0) ≡ slot_number (passed_by step.Truth c)
truth_passed (core_value.I32 n) e fits = ap (λ m. if not (m == 0) then 1 else 0) (mod-eq_of_lt fits)
truth_passed (core_value.I64 n) e fits = absurd (no_64 e)

pub char_passed : (c : CoreValue) → kind_of c ≡ kind.I32 → FitsKind c → slot_number c % 2 ^ 32 ≡ slot_number (passed_by step.Char c)
char_passed (core_value.I32 n) e fits = mod-eq_of_lt fits
char_passed (core_value.I64 n) e fits = absurd (no_64 e)

pub char_fine : (c : CoreValue) → kind_of c ≡ kind.I32 → FitsKind c → IsFine step.Char c → IsScalarValue (slot_number c % 2 ^ 32)
char_fine (core_value.I32 n) e fits fine = subst IsScalarValue (sym (mod-eq_of_lt fits)) fine
char_fine (core_value.I64 n) e fits fine = absurd (no_64 e)

pub fine_char : (c : CoreValue) → FitsKind c → IsScalarValue (slot_number c % 2 ^ 32) → IsFine step.Char c
fine_char (core_value.I32 n) fits is = subst IsScalarValue (mod-eq_of_lt fits) is
fine_char (core_value.I64 n) fits is = tt

pub flags_passed : (labels w : ℕ) (c : CoreValue) → kind_of c ≡ kind.I32 → FitsKind c
    → slot_number c % 2 ^ 32 % 2 ^ labels ≡ slot_number (passed_by (step_of (leaf.Flags labels w)) c)
flags_passed labels w (core_value.I32 n) e fits = elim (cases_lt labels 32) [
  | inl few ↦ rw (lt-ltb labels 32 few) (ap (λ m. m % 2 ^ labels) (mod-eq_of_lt fits))
  | inr many ↦ rw (le-ltb labels 32 many) (ap (λ m. m % 2 ^ labels) (mod-eq_of_lt fits) ∙ whole_word n labels fits many)
]
flags_passed labels w (core_value.I64 n) e fits = absurd (no_64 e)

pub flags_below : (labels n : ℕ) → n % 2 ^ labels < 2 ^ labels
flags_below labels n = mod_below n (2 ^ labels) (omega (arith, pow_mono {i = 0} {j = labels} (omega arith)))

pub flags_fine : (labels w : ℕ) (c : CoreValue) → IsFine (step_of (leaf.Flags labels w)) c
flags_fine labels w c = elim (cases_lt labels 32) [
  | inl few ↦ rw (lt-ltb labels 32 few) tt
  | inr many ↦ rw (le-ltb labels 32 many) tt
]

-- ---- numbers

pub unsigned_passed : (w : Width) (c : CoreValue) → kind_of c ≡ number_kind w → FitsKind c
    → slot_number c % 2 ^ (8 * width_bytes w) ≡ slot_number (passed_by (step_of (leaf.Unsigned (width_bytes w))) c)
unsigned_passed bits_8 (core_value.I32 n) e fits = refl
unsigned_passed bits_16 (core_value.I32 n) e fits = refl
unsigned_passed bits_32 (core_value.I32 n) e fits = mod-eq_of_lt fits
unsigned_passed bits_64 (core_value.I64 n) e fits = mod-eq_of_lt fits
unsigned_passed bits_8 (core_value.I64 n) e fits = absurd (no_64 e)
unsigned_passed bits_16 (core_value.I64 n) e fits = absurd (no_64 e)
unsigned_passed bits_32 (core_value.I64 n) e fits = absurd (no_64 e)
unsigned_passed bits_64 (core_value.I32 n) e fits = absurd (no_32 e)

pub unsigned_fits : (w : Width) (n : ℕ) → FitsWidth w (n % 2 ^ (8 * width_bytes w))
unsigned_fits bits_8 n = omega arith
unsigned_fits bits_16 n = omega arith
unsigned_fits bits_32 n = omega arith
unsigned_fits bits_64 n = omega arith

pub unsigned_fine : (w : Width) (c : CoreValue) → IsFine (step_of (leaf.Unsigned (width_bytes w))) c
unsigned_fine bits_8 c = tt
unsigned_fine bits_16 c = tt
unsigned_fine bits_32 c = tt
unsigned_fine bits_64 c = tt

pub signed_passed : (w : Width) (c : CoreValue) → kind_of c ≡ number_kind w → FitsKind c
    → from_signed (slot_bytes w) (as_signed (width_bytes w) (slot_number c % 2 ^ (8 * width_bytes w)))
    ≡ slot_number (passed_by (step_of (leaf.Signed (width_bytes w))) c)
signed_passed bits_8 (core_value.I32 n) e fits = refl
signed_passed bits_16 (core_value.I32 n) e fits = refl
signed_passed bits_32 (core_value.I32 n) e fits =
    ap (λ m. from_signed 4 (as_signed 4 m)) (mod-eq_of_lt fits) ∙ signed_again 4 (2 ^ 31) (2 ^ 32) n refl refl refl fits
signed_passed bits_64 (core_value.I64 n) e fits =
    ap (λ m. from_signed 8 (as_signed 8 m)) (mod-eq_of_lt fits) ∙ signed_again 8 (2 ^ 63) (2 ^ 64) n refl refl refl fits
signed_passed bits_8 (core_value.I64 n) e fits = absurd (no_64 e)
signed_passed bits_16 (core_value.I64 n) e fits = absurd (no_64 e)
signed_passed bits_32 (core_value.I64 n) e fits = absurd (no_64 e)
signed_passed bits_64 (core_value.I32 n) e fits = absurd (no_32 e)

fits_in : (half all n : ℕ) → all ≡ half + half → n < all → (neg_ℤ (pos half) ≤ℤ (if nat_lt n half then pos n else neg_ℤ (pos (all - n)))) × ((if nat_lt n half then pos n else neg_ℤ (pos (all - n))) <ℤ pos half)
fits_in half all n e lt = elim (cases_lt n half) [
  | inl low ↦ rw (lt-ltb n half low) (grind (arith, ints), grind (arith, ints, low))
  | inr high ↦ rw (le-ltb n half high) (grind (arith, ints, high, e), grind (arith, ints, lt, high, e))
]

pub signed_fits : (w : Width) (n : ℕ) → FitsSignedWidth w (as_signed (width_bytes w) (n % 2 ^ (8 * width_bytes w)))
signed_fits bits_8 n = fits_in (2 ^ 7) (2 ^ 8) (n % 2 ^ 8) refl (omega arith)
signed_fits bits_16 n = fits_in (2 ^ 15) (2 ^ 16) (n % 2 ^ 16) refl (omega arith)
signed_fits bits_32 n = fits_in (2 ^ 31) (2 ^ 32) (n % 2 ^ 32) refl (omega arith)
signed_fits bits_64 n = fits_in (2 ^ 63) (2 ^ 64) (n % 2 ^ 64) refl (omega arith)

pub signed_fine : (w : Width) (c : CoreValue) → IsFine (step_of (leaf.Signed (width_bytes w))) c
signed_fine bits_8 c = tt
signed_fine bits_16 c = tt
signed_fine bits_32 c = tt
signed_fine bits_64 c = tt
