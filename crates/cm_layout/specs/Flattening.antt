-- The core values that a value is passed as (CanonicalABI.md, "Flattening").
use Rattle.std.specs.Prelude.{◌≡◌, ℕ, zero, suc, ◌+◌, ◌≤◌, List, [], ◌∷◌, ◌++◌, length, ◌⊎◌, ⊤}
use Rattle.std.specs.Prelude.{Option, Some, None}
use Rattle.cm_types.specs.declared.core_value.CoreKind.{CoreKind}
use Rattle.cm_types.specs.declared.core_value.CoreKind.TheVariants.{I32, I64}
use Rattle.cm_types.specs.Types.{Ty, Fields, Cases, Width, bits_8, bits_16, bits_32, bits_64, bool}
use Rattle.cm_types.specs.Types.{signed, unsigned, char, string, list, fixed_list, fields, cases}
use Rattle.cm_types.specs.Types.{flags, own, borrow, no_fields, field, no_cases, plain, carrying}

-- a list, so many times over
abbrev pub copies : ℕ → List CoreKind → List CoreKind
copies zero xs = []
copies (suc n) xs = xs ++ copies n xs

-- the greater of two kinds: a 32-bit number fits a 64-bit one
abbrev pub join : CoreKind → CoreKind → CoreKind
join I32 k = k
join I64 k = I64

-- two lists of kinds, joined slot by slot
abbrev pub join_slots : List CoreKind → List CoreKind → List CoreKind
join_slots [] ys = ys
join_slots (x ∷ xs) [] = x ∷ xs
join_slots (x ∷ xs) (y ∷ ys) = join x y ∷ join_slots xs ys

-- two lists of kinds, joined from a slot on: the slots before it stay
abbrev pub join_from : ℕ → List CoreKind → List CoreKind → List CoreKind
join_from zero xs ys = join_slots xs ys
join_from (suc n) [] ys = ys
join_from (suc n) (x ∷ xs) ys = x ∷ join_from n xs ys

-- the kind of a number of this width
abbrev pub number_kind : Width → CoreKind
number_kind bits_8 = I32
number_kind bits_16 = I32
number_kind bits_32 = I32
number_kind bits_64 = I64

abbrev mutual
  -- the flat kinds of a type
  pub flat_of : Ty → List CoreKind
  flat_of bool = I32 ∷ []
  flat_of (signed w) = number_kind w ∷ []
  flat_of (unsigned w) = number_kind w ∷ []
  flat_of char = I32 ∷ []
  flat_of string = I32 ∷ I32 ∷ []
  flat_of (list t) = I32 ∷ I32 ∷ []
  flat_of (fixed_list t n) = copies n (flat_of t)
  flat_of (fields k fs) = flat_of_fields fs
  flat_of (cases k cs) = I32 ∷ flat_of_cases cs
  flat_of (flags ls) = I32 ∷ []
  flat_of (own r) = I32 ∷ []
  flat_of (borrow r) = I32 ∷ []

  -- the core values that fields are passed as, one field after another
  pub flat_of_fields : Fields → List CoreKind
  flat_of_fields no_fields = []
  flat_of_fields (field l t fs) = flat_of t ++ flat_of_fields fs

  -- those of payloads, joined
  pub flat_of_cases : Cases → List CoreKind
  flat_of_cases no_cases = []
  flat_of_cases (plain l cs) = flat_of_cases cs
  flat_of_cases (carrying l t cs) = join_slots (flat_of t) (flat_of_cases cs)

-- kinds were joined into slots from a slot on, and end at another
pub record JoinedFrom (at : ℕ) (old joined new : List CoreKind) (next : ℕ) : Type 0 where
  pub slots : new ≡ join_from at old joined
  pub end : next ≡ at + length joined
  pub within : next ≤ length new

-- those of a payload, if there is one
abbrev pub flat_of_payload : Option Ty → List CoreKind
flat_of_payload None = []
flat_of_payload (Some t) = flat_of t

-- ---- the same slot by slot

-- the kind in a slot, if there is one
abbrev pub slot : List CoreKind → ℕ → Option CoreKind
slot [] n = None
slot (k ∷ ks) zero = Some k
slot (k ∷ ks) (suc n) = slot ks n

-- some payload has this kind in this slot
abbrev pub SlotOfSome : Cases → ℕ → CoreKind → Type 0
SlotOfSome no_cases n k = ⊥
SlotOfSome (plain l cs) n k = SlotOfSome cs n k
SlotOfSome (carrying l t cs) n k = (slot (flat_of t) n ≡ Some k) ⊎ SlotOfSome cs n k

-- a kind is the greatest that some payload has in a slot, 32 bits below 64, or no payload has the
-- slot
abbrev pub IsGreatestSlot : Cases → ℕ → Option CoreKind → Type 0
IsGreatestSlot cs n None = (k : CoreKind) → SlotOfSome cs n k → ⊥
IsGreatestSlot cs n (Some k) =
    SlotOfSome cs n k × ((j : CoreKind) → SlotOfSome cs n j → join j k ≡ k)

-- what has cases is the number of the case, and then slot by slot the greatest kind
abbrev pub JoinsSlots : Ty → List CoreKind → Type 0
JoinsSlots (cases k cs) [] = ⊥
JoinsSlots (cases k cs) (d ∷ slots) = (d ≡ I32) × ((n : ℕ) → IsGreatestSlot cs n (slot slots n))
JoinsSlots _ kinds = ⊤
