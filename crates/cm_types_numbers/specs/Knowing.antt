-- Numbers of types that are known by their places.
use Rattle.std.specs.Prelude.{◌≡◌, ℕ, List, Option, Some}
use Rattle.std.specs.BTreeMap.{get}
use Rattle.std.specs.Ordering.{nat_cmp}
use Rattle.cm_types.specs.Types.{Ty}
use Rattle.cm_types_arena.specs.Replaced.{Standing, replaced}
use Rattle.cm_types_arena.specs.TypeDefs.{type_at}
use Rattle.cm_types_numbers.specs.Numbering.{Numbering, number}
use Rattle.cm_types_numbers.specs.declared.known.Known.{Known}

-- the number that is known for a place
abbrev pub known_number : Known → ℕ → Option ℕ
known_number known place = get nat_cmp known.numbers place

-- What is known are numbers of these types, each resource replaced.
abbrev pub Knows : Numbering → Standing → List Ty → Known → Type 0
Knows t s ts known = (place n : ℕ) → known_number known place ≡ Some n
    → number t (replaced s (type_at ts place)) ≡ Some n
