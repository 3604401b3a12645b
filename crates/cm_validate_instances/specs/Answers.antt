-- What calls answer for an item, among the types of one arena.
use Rattle.std.specs.Prelude.{◌≡◌, List, Option}
use Rattle.cm_types.specs.Types.{Ty, FuncTy}
use Rattle.cm_validate_model.specs.declared.fault.ValidReason.{ValidReason}
use Rattle.cm_validate_model.specs.Items.{Item}
use Rattle.cm_validate_model.specs.Reasons.{least}
use Rattle.cm_validate_model.specs.Rules.{broken}
use Rattle.cm_validate_model.specs.Spaces.{Spaces}
use Rattle.cm_validate_types.specs.declared.entries.TypeEntry.{TypeEntry}
use Rattle.cm_validate_entries.specs.ComponentSpaces.{AreTypesOf, IsComponentOf, after_answer}
use Rattle.cm_validate_entries.specs.declared.spaces.ComponentSpaces.{ComponentSpaces}

-- with the least reason to refuse it, or else after it
pub record AnswersAmong (types : List Ty) (funcs : List FuncTy) (es : List TypeEntry) (x : Item)
    (old : ComponentSpaces) (r : Option ValidReason) (new : ComponentSpaces) : Type 0 where
  pub fault : (s : Spaces) → IsComponentOf types funcs old s → AreTypesOf types funcs es s
      → r ≡ least (broken s x)
  pub after : (s : Spaces) → IsComponentOf types funcs old s → AreTypesOf types funcs es s
      → IsComponentOf types funcs new (after_answer r s x)
