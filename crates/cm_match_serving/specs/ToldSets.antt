-- What the code's components of a set tell, and which spaces they describe.
use Rattle.std.specs.Prelude.{◌≡◌, ℕ, List, Option, None, slice_get, option_and_then}
use Rattle.std.specs.Option.{option_map}
use Rattle.cm_types.specs.declared.resource.ResourceId.{ResourceId}
use Rattle.cm_validate_model.specs.Definitions.{ResourceDef, brought, defined}
use Rattle.cm_validate_model.specs.Spaces.{Spaces}
use Rattle.cm_match_model.specs.declared.component.Link.{Link}
use Rattle.cm_match_serving.specs.Components.{Told}
use Rattle.cm_match_model.specs.Origins.{Links, definition_of, exported_resource, item_name}
use Rattle.cm_match_model.specs.Origins.{resource_of}

-- ---- by what components tell

-- the resource that the linked export has under a name
abbrev pub linked_at : Told → ℕ → ℕ × List ℕ → Option ResourceId
linked_at told component source =
    option_and_then (λ l. option_map (resource_of l.component) (told.member l source.1))
    (told.link component source.0)

abbrev pub served_at : Told → ResourceId → Option ResourceId
served_at told r =
    option_and_then (λ source. option_and_then (linked_at told r.component) source)
    (told.source r)

-- ---- by the spaces

-- the import and the name of a resource, none where it is defined
abbrev pub source_by : List Spaces → ℕ → ResourceDef → Option (ℕ × List ℕ)
source_by set component (defined destructor) = None
source_by set component (brought import item) =
    option_map (λ name. (import, name))
    (option_and_then (λ s. item_name s import item) (slice_get set component))

abbrev pub source_of : List Spaces → ResourceId → Option (Option (ℕ × List ℕ))
source_of set r = option_map (source_by set r.component) (definition_of set r)

abbrev pub member_of : List Spaces → Link → List ℕ → Option ℕ
member_of set l name =
    option_and_then (λ s. exported_resource s l.export name) (slice_get set l.component)

-- ---- that they tell the same

-- Components tell of the spaces of a set with these links: which resources there are, which of them
-- an import brings under which name, what it is linked to, and which resources exports have.
pub record Describes (told : Told) (set : List Spaces) (links : Links) : Type 0 where
  pub sources : (r : ResourceId) → told.source r ≡ source_of set r
  pub linked : (component import : ℕ) → told.link component import ≡ links component import
  pub members : (l : Link) (name : List ℕ) → told.member l name ≡ member_of set l name
