-- The index spaces of a component, and what calls answer for its canonical definitions.
use Rattle.std.specs.Prelude.{◌≡◌, ◌+◌, ℕ, Option, Some, None}
use Rattle.std.specs.Option.{option_map}
use Rattle.cm_binary_model.specs.Trees.{CanonTree}
use Rattle.cm_validate_model.specs.declared.fault.ValidReason.{ValidReason}
use Rattle.cm_validate_model.specs.Definitions.{CoreFuncDef}
use Rattle.cm_validate_model.specs.Items.{canon_item}
use Rattle.cm_validate_model.specs.Reasons.{least}
use Rattle.cm_validate_model.specs.Rules.{broken}
use Rattle.cm_validate_model.specs.Spaces.{Spaces, canon_core_func}
use Rattle.cm_validate_core.specs.CoreSpaces.{IsCoreOf, made_count, number_made, count_made}
use Rattle.cm_validate_core.specs.declared.spaces.CoreSpaces.{CoreSpaces}
use Rattle.cm_validate_entries.specs.ComponentSpaces.{AreTypesOf, IsComponentOf, after_answer}
use Rattle.cm_validate_entries.specs.declared.spaces.ComponentSpaces.{ComponentSpaces}
use Rattle.cm_validate_canons.specs.Types.{types_in, funcs_in}
use Rattle.cm_validate_canons.specs.declared.types.LaidTypes.{LaidTypes}

-- these are the index spaces of a component: the core ones, where `made` tells by its number what a
-- canonical definition made; functions, instances, resources, imports and exports; types
pub record Stand (made : ℕ → CoreFuncDef) (types : LaidTypes) (core : CoreSpaces)
    (component : ComponentSpaces) (s : Spaces) : Type 0 where
  pub core_is : IsCoreOf made core s
  pub component_is : IsComponentOf (types_in types) (funcs_in types) component s
  pub types_are : AreTypesOf (types_in types) (funcs_in types) types.entries.now s

-- the next number stands for the core function that a canonical definition makes, if it makes one
abbrev pub TellsNext : (ℕ → CoreFuncDef) → CoreSpaces → Spaces → CanonTree → Type 0
TellsNext made core s c = canon_core_func s c ≡ option_map made (number_made core c)

-- how many core functions were made after a canonical definition; after one that violates a rule
-- none more
abbrev pub count_after : Option ValidReason → CoreSpaces → CanonTree → ℕ
count_after None core c = made_count core + count_made c
count_after (Some r) core c = made_count core

-- A call answers for a canonical definition: with the least reason to refuse it, or else after it.
pub record Answers (types : LaidTypes) (c : CanonTree) (old_core : CoreSpaces)
    (old : ComponentSpaces) (r : Option ValidReason) (new_core : CoreSpaces)
    (new : ComponentSpaces) : Type 0 where
  pub fault : (made : ℕ → CoreFuncDef) (s : Spaces) → Stand made types old_core old s
      → r ≡ least (broken s (canon_item c))
  pub after : (made : ℕ → CoreFuncDef) (s : Spaces) → Stand made types old_core old s
      → (r ≡ None → TellsNext made old_core s c)
      → Stand made types new_core new (after_answer r s (canon_item c))
  pub counted : made_count new_core ≡ count_after r old_core c
