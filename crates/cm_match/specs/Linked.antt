-- The components of a linked set, and their index spaces with what their imports see.
use Rattle.std.specs.Prelude.{List}
use Rattle.cm_binary_model.specs.Trees.{SectionTree}
use Rattle.cm_match_model.specs.Imports.{LinkSet}
use Rattle.cm_match_serving.specs.cm_validate_spaces.declared.checked.Checked.{Checked}
use Rattle.cm_match_serving.specs.Sets.{sections_of, set_by}
use Rattle.cm_match.specs.declared.linked.Linked.{Linked}

abbrev pub components_in : Linked → List Checked
components_in l = l.components.items

abbrev pub sections_in : Linked → List (List SectionTree)
sections_in l = sections_of (components_in l)

abbrev pub set_in : Linked → LinkSet
set_in l = set_by (components_in l) l.choices
