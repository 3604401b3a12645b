use Rattle.std.proofs.Common.{◌∙◌, ap, refl}
use Rattle.std.specs.Prelude.{slice_get}
use Rattle.cm_types.specs.DefTypes.{resource_def}
use Rattle.cm_validate_model.specs.Definitions.{defined}
use Rattle.cm_validate_model.specs.Items.{all_items, type_item}
use Rattle.cm_validate_model.specs.Spaces.{Spaces, new_resources, next_resource}
use Rattle.cm_validate_model.proofs.ListLemmas.{at_end, grown_at}
use Rattle.cm_validate_model.proofs.resource_laws.resources_are_as_defined.Goals as goal

pub returns : goal.returns
returns c = λ sections s destructor at.
    let m = grown_at (λ (v : Spaces). v.resources) new_resources (λ v y. refl) (all_items sections) s (type_item (resource_def destructor)) at in
    ap (λ l. slice_get l (next_resource s)) m.1 ∙ at_end s.resources (defined destructor) m.0
