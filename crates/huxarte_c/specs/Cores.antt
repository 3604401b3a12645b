-- Core values in numbers (this project's own choice).
use Rattle.std.specs.Prelude.{◌≡◌, ◌<◌, ◌%◌, ◌^◌, ℕ, zero, suc, List, [], ◌∷◌, Option, None}
use Rattle.std.specs.Prelude.{Some, length, slice_get, take}
use Rattle.std.specs.List.{AllByRecursion}
use Rattle.cm_types.specs.declared.core_value.CoreValue.{CoreValue}
use Rattle.cm_types.specs.declared.core_value.CoreValue.TheVariants.{I32, I64}
use Rattle.huxarte_c.specs.declared.cores.HuxCore.{HuxCore}
use Rattle.huxarte_c.specs.declared.refusal.SetRefusal.{SetRefusal}
use Rattle.huxarte_c.specs.declared.refusal.SetRefusal.TheVariants as refusal

-- a core value in numbers
abbrev pub core_of : CoreValue → HuxCore
core_of (I32 n) = record { bits = n; kind = 0 }
core_of (I64 n) = record { bits = n; kind = 1 }

-- the core value of numbers, where they have a kind
abbrev pub value_at : ℕ → ℕ → CoreValue
value_at bits zero = I32 (bits % 2 ^ 32)
value_at bits (suc kind) = I64 bits

abbrev pub value_of : HuxCore → CoreValue
value_of c = value_at c.bits c.kind

-- each has a kind
abbrev pub AreKinds : List HuxCore → Type 0
AreKinds cores = AllByRecursion (λ c. c.kind < 2) cores

-- the first that has none is at this place
pub record IsUnknownAt (cores : List HuxCore) (place : ℕ) : Type 0 where
  pub core : HuxCore
  pub stands : slice_get cores place ≡ Some core
  pub unknown : core.kind < 2 → ⊥
  pub before : AreKinds (take place cores)

-- why numbers are no core values; or there was no memory for their list, which takes none where it
-- is empty
abbrev pub IsCoresFault : List HuxCore → SetRefusal → Type 0
IsCoresFault cores (refusal.NoKind place) = IsUnknownAt cores place
IsCoresFault cores refusal.Memory = 0 < length cores
IsCoresFault cores _ = ⊥

-- the core value at a place in numbers, 0 of 32 bits where there is none
abbrev pub core_or_none : Option CoreValue → HuxCore
core_or_none None = record { bits = 0; kind = 0 }
core_or_none (Some v) = core_of v

abbrev pub core_at : List CoreValue → ℕ → HuxCore
core_at values place = core_or_none (slice_get values place)

-- core values in an array of 16
abbrev pub placed : List CoreValue → List HuxCore
placed vs = core_at vs 0 ∷ core_at vs 1 ∷ core_at vs 2 ∷ core_at vs 3
    ∷ core_at vs 4 ∷ core_at vs 5 ∷ core_at vs 6 ∷ core_at vs 7
    ∷ core_at vs 8 ∷ core_at vs 9 ∷ core_at vs 10 ∷ core_at vs 11
    ∷ core_at vs 12 ∷ core_at vs 13 ∷ core_at vs 14 ∷ core_at vs 15 ∷ []
