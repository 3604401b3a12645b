-- Sets of valid components (how components are linked is this project's own choice).
use Rattle.std.specs.Prelude.{List, map}
use Rattle.cm_binary_model.specs.Trees.{SectionTree}
use Rattle.cm_match_model.specs.Imports.{LinkSet}
use Rattle.cm_validate.specs.cm_validate_spaces.Checked.{sections_in}
use Rattle.cm_validate.specs.cm_validate_spaces.declared.checked.Checked.{Checked}
use Rattle.cm_stubs.specs.Stubs.{set_of}

-- the sections of components, and these as a set
abbrev pub sections_of : List Checked → List (List SectionTree)
sections_of cs = map sections_in cs

abbrev pub checked_set : List Checked → LinkSet
checked_set cs = set_of (sections_of cs)
