-- Numbers in core values.
use Rattle.std.proofs.Common.{◌≡◌, ℕ, zero, suc, ◌+◌, ◌<◌, ◌≤◌, List, [], ◌∷◌, length, map, refl, sym, ap, ◌∙◌, arith, inl, inr}
use Rattle.std.proofs.lemmas.Bool.{cases_lt}
use Rattle.std.specs.Prelude.{slice_index, slice_index_or, slice_set}
use Rattle.cm_types.specs.declared.core_value.CoreKind.{CoreKind}
use Rattle.cm_types.specs.declared.core_value.CoreValue.{CoreValue}
use Rattle.cm_types.specs.CoreValues.{kind_of}
use Rattle.cm_abi_model.specs.Numbers.{slot_at, slot_number}
use Rattle.cm_abi_model.specs.Receives.{AreNumbers, SlotsHold}
use Rattle.cm_abi_model.specs.Stores.{Holds, IsBeside, Placed}
use Rattle.cm_abi_store.specs.Kinds.{kind_limit, slot_limit}

pub set_kinds : (slots : List CoreValue) (i : ℕ) (x d : CoreValue) → i < length slots → kind_of x ≡ kind_of (slice_index_or slots i d) → map kind_of (slice_set slots i x) ≡ map kind_of slots
set_kinds [] i x d lt same = refl
set_kinds (s ∷ slots) zero x d lt same = ap (λ k. k ∷ map kind_of slots) same
set_kinds (s ∷ slots) (suc i) x d lt same = ap (λ ks. kind_of s ∷ ks) (set_kinds slots i x d (omega (arith, lt)) same)

pub set_slots : (slots : List CoreValue) (i : ℕ) (x : CoreValue) → length (slice_set slots i x) ≡ length slots
set_slots [] i x = refl
set_slots (s ∷ slots) zero x = refl
set_slots (s ∷ slots) (suc i) x = ap suc (set_slots slots i x)

set_here : (slots : List CoreValue) (i : ℕ) (x : CoreValue) → i < length slots → slot_at (slice_set slots i x) i ≡ slot_number x
set_here [] i x lt = absurd (omega (arith, lt))
set_here (s ∷ slots) zero x lt = refl
set_here (s ∷ slots) (suc i) x lt = set_here slots i x (omega (arith, lt))

set_there : (slots : List CoreValue) (i k : ℕ) (x : CoreValue) → k < i → slot_at (slice_set slots i x) k ≡ slot_at slots k
set_there [] i k x lt = refl
set_there (s ∷ slots) zero k x lt = absurd (omega (arith, lt))
set_there (s ∷ slots) (suc i) zero x lt = refl
set_there (s ∷ slots) (suc i) (suc k) x lt = set_there slots i k x (omega (arith, lt))

pub one_more : (slots : List CoreValue) (numbers : List ℕ) (i : ℕ) (x : CoreValue) → i < length slots → slot_number x ≡ slice_index numbers i
    → ((k : ℕ) → k < i → slot_at slots k ≡ slice_index numbers k) → (k : ℕ) → k < i + 1 → slot_at (slice_set slots i x) k ≡ slice_index numbers k
one_more slots numbers i x lt is before k below = elim (cases_lt k i) [
  | inl first ↦ set_there slots i k x first ∙ before k first
  | inr last ↦ here (omega (arith, last, below))
]
  where
    here : k ≡ i → slot_at (slice_set slots i x) k ≡ slice_index numbers k
    here same = rw same (set_here slots i x lt ∙ is)

-- the limit of a slot is that of its core value
pub limit_there : (slots : List CoreValue) (kinds : List CoreKind) (i n : ℕ) (d : CoreValue) → map kind_of slots ≡ kinds → i < length slots → n < slot_limit kinds i → n < kind_limit (kind_of (slice_index_or slots i d))
limit_there slots kinds i n d same lt below = go slots i lt (rw same below)
  where
    go : (slots : List CoreValue) (i : ℕ) → i < length slots → n < slot_limit (map kind_of slots) i → n < kind_limit (kind_of (slice_index_or slots i d))
    go [] i lt below = absurd (omega (arith, lt))
    go (s ∷ slots) zero lt below = below
    go (s ∷ slots) (suc i) lt below = go slots i (omega (arith, lt)) below

past_slots : (slots : List CoreValue) (k : ℕ) → length slots ≤ k → slot_at slots k ≡ 0
past_slots [] k past = refl
past_slots (s ∷ slots) zero past = absurd (omega (arith, past))
past_slots (s ∷ slots) (suc k) past = past_slots slots k (omega (arith, past))

past_numbers : (numbers : List ℕ) (k : ℕ) → length numbers ≤ k → slice_index numbers k ≡ 0
past_numbers [] k past = refl
past_numbers (n ∷ numbers) zero past = absurd (omega (arith, past))
past_numbers (n ∷ numbers) (suc k) past = past_numbers numbers k (omega (arith, past))

slots_hold : (slots : List CoreValue) (numbers : List ℕ) → ((k : ℕ) → slot_at slots k ≡ slice_index numbers k) → (puts : List Placed) → Holds numbers puts → SlotsHold slots puts
slots_hold slots numbers all [] holds = tt
slots_hold slots numbers all (p ∷ puts) holds = (all p.0 ∙ holds.0, slots_hold slots numbers all puts holds.1)

pub all_put : (slots : List CoreValue) (numbers : List ℕ) (kinds : List CoreKind) (i : ℕ) → length slots ≡ length numbers → length slots ≤ i → map kind_of slots ≡ kinds
    → ((k : ℕ) → k < i → slot_at slots k ≡ slice_index numbers k) → (puts : List Placed) → Holds numbers puts → ((k : ℕ) → IsBeside k puts → slice_index numbers k ≡ 0) → AreNumbers kinds slots puts
all_put slots numbers kinds i same past kinds_are below puts holds others =
    record { of_kinds = kinds_are; numbers = slots_hold slots numbers all puts holds; others = λ k beside. all k ∙ others k beside }
  where
    all : (k : ℕ) → slot_at slots k ≡ slice_index numbers k
    all k = elim (cases_lt k i) [
      | inl first ↦ below k first
      | inr last ↦ past_slots slots k (omega (arith, past, last)) ∙ sym (past_numbers numbers k (omega (arith, past, last, same)))
    ]
