-- What a resource is in the end, over a set of components (how components are linked is this
-- project's own choice): one that a component defines is itself; one that an import brings is what
-- the resource is that the linked export has under its name.
use Rattle.std.specs.Prelude.{◌≡◌, ℕ, zero, suc, ◌<◌, List, [], Option, Some, None, slice_get}
use Rattle.std.specs.Prelude.{option_and_then, unwrap_or}
use Rattle.std.specs.Option.{option_map}
use Rattle.cm_types.specs.declared.resource.ResourceId.{ResourceId}
use Rattle.cm_types.specs.Signatures.{ExternTy, NamedItem, func, instance}
use Rattle.cm_match_model.specs.declared.component.Link.{Link}
use Rattle.cm_validate_model.specs.Definitions.{ExportDef, MemberDef, NamedMember, ResourceDef}
use Rattle.cm_validate_model.specs.Definitions.{TypeDef}
use Rattle.cm_validate_model.specs.Definitions.{brought, defined, exported_func, exported_instance}
use Rattle.cm_validate_model.specs.Definitions.{func_member, resource, type_member}
use Rattle.cm_validate_model.specs.Spaces.{Spaces, member_named}

-- the resource of this number of a component
abbrev pub resource_of : ℕ → ℕ → ResourceId
resource_of component number = record { component = component; number = number }

-- ---- links

-- the link of each import of each component, where it has one
abbrev pub Links : Type 0
Links = ℕ → ℕ → Option Link

-- each import is linked to an earlier component
abbrev pub LeadEarlier : Links → Type 0
LeadEarlier links =
    (component import : ℕ) (l : Link) → links component import ≡ Some l → l.component < component

-- ---- names

-- the items of an import, if it is an instance
abbrev pub items_of : ExternTy → List NamedItem
items_of (func f) = []
items_of (instance items) = items

-- the name of an item of an import
abbrev pub item_name : Spaces → ℕ → ℕ → Option (List ℕ)
item_name s import item =
    option_and_then (λ i. option_map (λ x. x.name) (slice_get (items_of i.desc) item))
    (slice_get s.imports import)

-- the members of an export, if it is an instance
abbrev pub members_of : ExportDef → List NamedMember
members_of (exported_func f) = []
members_of (exported_instance members) = members

-- the number of the resource that a member is, if it is one
abbrev pub resource_type : TypeDef → Option ℕ
resource_type (resource number) = Some number
resource_type _ = None

abbrev pub resource_member : MemberDef → Option ℕ
resource_member (func_member f) = None
resource_member (type_member t) = resource_type t

-- the number of the resource that an export has under a name
abbrev pub exported_resource : Spaces → ℕ → List ℕ → Option ℕ
exported_resource s export name =
    option_and_then
    (λ e. option_and_then resource_member (member_named (members_of e.def) name))
    (slice_get s.exports export)

-- ---- origins

-- what the resource of a component is by its own sections
abbrev pub definition_of : List Spaces → ResourceId → Option ResourceDef
definition_of set r =
    option_and_then (λ s. slice_get s.resources r.number) (slice_get set r.component)

-- the resource that an export has under a name
abbrev pub resource_at : List Spaces → Link → List ℕ → Option ResourceId
resource_at set l name =
    option_and_then
    (λ s. option_map (resource_of l.component) (exported_resource s l.export name))
    (slice_get set l.component)

-- the resource that the linked export has under the name of an import's item
abbrev pub served : List Spaces → Links → ℕ → ℕ → ℕ → Option ResourceId
served set links component import item =
    option_and_then (λ name.
    option_and_then (λ l. resource_at set l name) (links component import))
    (option_and_then (λ s. item_name s import item) (slice_get set component))

-- what each resource is in the end
abbrev pub Table : Type 0
Table = ResourceId → Option ResourceId

-- a resource that is defined is itself; one that an import brings is what the resource is that
-- serves it, and itself where none does
abbrev pub origin_by : List Spaces → Links → Table → ResourceId → ResourceDef → ResourceId
origin_by set links table r (defined destructor) = r
origin_by set links table r (brought import item) =
    unwrap_or (option_and_then table (served set links r.component import item)) r

-- the table tells what each resource is in the end
abbrev pub AreOrigins : List Spaces → Links → Table → Type 0
AreOrigins set links table = (r : ResourceId)
    → table r ≡ option_map (origin_by set links table r) (definition_of set r)

-- the table of what each resource of so many components is in the end
abbrev pub origin_within : ℕ → List Spaces → Links → Table
origin_within zero set links r = None
origin_within (suc count) set links r =
    option_map (origin_by set links (origin_within count set links) r) (definition_of set r)

-- what each resource of each component is in the end
abbrev pub origin_of : List Spaces → Links → Table
origin_of set links r = origin_within (suc r.component) set links r
