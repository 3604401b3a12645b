-- Which imports or exports of a component are instances whose items have the same names, as those
-- of one type have (Binary.md, "Import and Export Definitions").
use Rattle.std.specs.Prelude.{◌≡◌, ℕ, List, [], Option, Some, None, map, slice_get}
use Rattle.std.specs.Option.{option_and_then}
use Rattle.cm_types_arena.specs.declared.externs.Extern.{Extern}
use Rattle.cm_types_arena.specs.declared.externs.ExternDesc.{ExternDesc}
use Rattle.cm_types_arena.specs.declared.externs.ExternDesc.TheVariants as extern

-- the names of its items, which a function has not
abbrev pub names_of_items : ExternDesc → List (List ℕ)
names_of_items (extern.Func p) = []
names_of_items (extern.Instance ty by) = map (λ i. i.name) ty.value.items.items

abbrev pub names_of_extern : Option Extern → List (List ℕ)
names_of_extern None = []
names_of_extern (Some e) = names_of_items e.desc

-- the number of the one at a place, if it has one
abbrev pub number_in : List (Option ℕ) → ℕ → Option ℕ
number_in numbers place = option_and_then (λ n. n) (slice_get numbers place)

-- Those of one number have items of the same names.
abbrev pub AreAlike : List Extern → List (Option ℕ) → Type 0
AreAlike es numbers =
    (a b n : ℕ) → number_in numbers a ≡ Some n → number_in numbers b ≡ Some n
    → names_of_extern (slice_get es a) ≡ names_of_extern (slice_get es b)
