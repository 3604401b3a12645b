-- Which names the items of an instance may have (Explainer.md, "Import and Export Definitions").
use Rattle.std.specs.Prelude.{Bool, true, false, ◌&&◌, ℕ, List, [], ◌∷◌, ◌++◌, map, Option, Some}
use Rattle.std.specs.Prelude.{None, codes, if◌then◌else◌}
use Rattle.std.specs.List.{flat_map}
use Rattle.std.specs.Option.{option_map_or}
use Rattle.std.specs.Str.{bytes_eq}
use Rattle.cm_types.specs.ExternNames.{NameTree, plain, method, static, constructor, interface}
use Rattle.cm_types.specs.ExternNames.{form_of}
use Rattle.cm_types.specs.Resources.{same_resource}
use Rattle.cm_types.specs.Signatures.{ItemTy, NamedItem, func_item, equal_type, equal_resource}
use Rattle.cm_types.specs.Signatures.{fresh_resource}
use Rattle.cm_types.specs.Types.{Ty, Fields, FuncTy, own, borrow, no_fields, field}
use Rattle.cm_types.specs.declared.resource.ResourceId.{ResourceId}
use Rattle.cm_validate_model.specs.declared.fault.ValidReason.{ValidReason}
use Rattle.cm_validate_model.specs.declared.fault.ValidReason.TheVariants as reason
use Rattle.cm_validate_model.specs.Reasons.{unless}
use Rattle.cm_validate_model.specs.TypeRules.{are_distinct_names}

-- the resource that an item is
abbrev pub resource_of_item : ItemTy → Option ResourceId
resource_of_item (func_item f) = None
resource_of_item (equal_type t) = None
resource_of_item (equal_resource r) = Some r
resource_of_item (fresh_resource r) = Some r

-- the resource that an instance has under a name, exactly as it is written
abbrev pub resource_named : List NamedItem → List ℕ → Option ResourceId
resource_named [] name = None
resource_named (i ∷ is) name =
    if bytes_eq i.name name then resource_of_item i.desc else resource_named is name

-- a method's first parameter is `self`, a borrow of its resource
abbrev pub is_self : ResourceId → Ty → Bool
is_self r (borrow s) = same_resource r s
is_self r _ = false

abbrev pub takes_self : ResourceId → Fields → Bool
takes_self r no_fields = false
takes_self r (field label ty fs) = bytes_eq label (codes "self") && is_self r ty

-- a constructor answers its resource
abbrev pub is_owned : ResourceId → Ty → Bool
is_owned r (own s) = same_resource r s
is_owned r _ = false

abbrev pub answers_own : ResourceId → Option Ty → Bool
answers_own r result = option_map_or (is_owned r) result false

-- whether a function of an instance with these items may have a name of this form
abbrev pub may_name_func : List NamedItem → FuncTy → NameTree → Bool
may_name_func items f (plain l) = true
may_name_func items f (method r m) =
    option_map_or (λ s. takes_self s f.params) (resource_named items r) false
may_name_func items f (static r m) = option_map_or (λ s. true) (resource_named items r) false
may_name_func items f (constructor r) =
    option_map_or (λ s. answers_own s f.result) (resource_named items r) false
may_name_func items f (interface ns pkg name version) = false

-- a type has a label
abbrev pub is_plain : NameTree → Bool
is_plain (plain l) = true
is_plain _ = false

abbrev pub may_name : List NamedItem → ItemTy → NameTree → Bool
may_name items (func_item f) form = may_name_func items f form
may_name items _ form = is_plain form

-- whether the name of an item of an instance with these items is one that it may have
abbrev pub is_well_named : List NamedItem → NamedItem → Bool
is_well_named items i = option_map_or (may_name items i.desc) (form_of i.name) false

-- the names of the items of an instance
abbrev pub item_names_broken : List NamedItem → List ValidReason
item_names_broken items =
    unless (are_distinct_names (map (λ i. i.name) items)) reason.DuplicateName
    ++ flat_map (λ i. unless (is_well_named items i) reason.BadAnnotatedName) items

-- ---- imports and exports of a component

-- a function has a label
abbrev pub is_label_name : List ℕ → Bool
is_label_name name = option_map_or is_plain (form_of name) false

-- an instance has a label or the name of an interface
abbrev pub is_plain_or_interface : NameTree → Bool
is_plain_or_interface (plain l) = true
is_plain_or_interface (interface ns pkg name version) = true
is_plain_or_interface _ = false

abbrev pub is_instance_name : List ℕ → Bool
is_instance_name name = option_map_or is_plain_or_interface (form_of name) false
