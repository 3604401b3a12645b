-- The index spaces of the components of a set, the arenas of their types, and what their imports
-- see (how components are linked is this project's own choice).
use Rattle.std.specs.Prelude.{ℕ, List, [], map, slice_get}
use Rattle.std.specs.Option.{option_map_or}
use Rattle.cm_types.specs.Types.{Ty, FuncTy}
use Rattle.cm_binary_model.specs.Trees.{SectionTree}
use Rattle.cm_validate_model.specs.Spaces.{Spaces, spaces_of}
use Rattle.cm_validate_spaces.specs.Checked as checked
use Rattle.cm_validate_spaces.specs.declared.checked.Checked.{Checked}
use Rattle.cm_match_model.specs.Imports.{LinkSet, seen_by, sees_all}
use Rattle.cm_match_model.specs.Sights.{sees_in}
use Rattle.cm_match_model.specs.declared.sight.Choices.{Choices}

-- the sections of components, and the index spaces of each
abbrev pub sections_of : List Checked → List (List SectionTree)
sections_of cs = map checked.sections_in cs

abbrev pub spaces_of_all : List Checked → List Spaces
spaces_of_all cs = map spaces_of (sections_of cs)

-- components whose imports see all exports before them, and what is chosen for them
abbrev pub set_of : List Checked → LinkSet
set_of cs = seen_by sees_all (spaces_of_all cs)

abbrev pub set_by : List Checked → Choices → LinkSet
set_by cs choices = seen_by (sees_in choices) (spaces_of_all cs)

-- the types in the arena of one of them, and those of functions
abbrev pub types_at : List Checked → ℕ → List Ty
types_at cs component = option_map_or checked.types_in (slice_get cs component) []

abbrev pub funcs_at : List Checked → ℕ → List FuncTy
funcs_at cs component = option_map_or checked.funcs_in (slice_get cs component) []
