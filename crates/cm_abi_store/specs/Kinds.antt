-- Whether numbers fit the kinds of the slots that they stand in (CanonicalABI.md, "Flattening").
use Rattle.std.specs.Prelude.{ℕ, zero, suc, ◌^◌, ◌<◌, List, [], ◌∷◌, slice_index}
use Rattle.cm_types.specs.declared.core_value.CoreKind.{CoreKind}
use Rattle.cm_types.specs.declared.core_value.CoreKind.TheVariants as kind

-- a number of a kind is below this
abbrev pub kind_limit : CoreKind → ℕ
kind_limit kind.I32 = 2 ^ 32
kind_limit kind.I64 = 2 ^ 64

-- a number in this slot is below that, where the slots are of these kinds
abbrev pub slot_limit : List CoreKind → ℕ → ℕ
slot_limit [] i = 2 ^ 64
slot_limit (k ∷ ks) zero = kind_limit k
slot_limit (k ∷ ks) (suc i) = slot_limit ks i

-- each number fits the kind of its slot
abbrev pub FitKinds : List CoreKind → List ℕ → Type 0
FitKinds kinds numbers = (i : ℕ) → slice_index numbers i < slot_limit kinds i
