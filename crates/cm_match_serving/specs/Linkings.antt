-- The components of a set whose imports are linked by what they see, and what they tell of
-- resources (how components are linked is this project's own choice).
use Rattle.std.specs.Prelude.{List}
use Rattle.cm_validate_spaces.specs.declared.checked.Checked.{Checked}
use Rattle.cm_match_serving.specs.Components.{Told}
use Rattle.cm_match_serving.specs.ToldSets.{member_of, source_of}
use Rattle.cm_match_model.specs.Imports.{LinkSet, links_of}
use Rattle.cm_match_serving.specs.Sets.{set_by}
use Rattle.cm_match_serving.specs.declared.linking.Linking.{Linking}

-- the components, and their index spaces with what their imports see
abbrev pub components_in : Linking → List Checked
components_in l = l.components.now

abbrev pub set_in : Linking → LinkSet
set_in l = set_by (components_in l) l.choices.now

-- what the components of a set tell of their resources, with each import linked to its only
-- candidate
abbrev pub told_of : Linking → Told
told_of l =
    record {
      source = source_of (set_in l).spaces;
      link = links_of (set_in l);
      member = member_of (set_in l).spaces;
    }
