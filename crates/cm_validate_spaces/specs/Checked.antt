-- What a valid component is, and where its types stand (Explainer.md, "Index Spaces").
use Rattle.std.specs.Prelude.{List}
use Rattle.cm_types.specs.Types.{Ty, FuncTy}
use Rattle.cm_binary_model.specs.Trees.{SectionTree}
use Rattle.cm_validate_model.specs.Spaces.{Spaces, spaces_of}
use Rattle.cm_validate_spaces.specs.ComponentEntries as entries
use Rattle.cm_validate_spaces.specs.declared.checked.Checked.{Checked}

-- the sections of a valid component, and its index spaces
abbrev pub sections_in : Checked → List SectionTree
sections_in c = c.component.now

abbrev pub spaces_in : Checked → Spaces
spaces_in c = spaces_of (sections_in c)

-- the types of its arena, and those of functions
abbrev pub types_in : Checked → List Ty
types_in c = entries.types_in c.entries

abbrev pub funcs_in : Checked → List FuncTy
funcs_in c = entries.funcs_in c.entries
