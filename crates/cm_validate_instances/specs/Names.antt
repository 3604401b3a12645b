-- Which names the items of an instance may have, by sketches of the items.
use Rattle.std.specs.Prelude.{◌≡◌, ◌++◌, ℕ, Bool, true, false, List, [], ◌∷◌, map, Option}
use Rattle.std.specs.Prelude.{None, if◌then◌else◌}
use Rattle.std.specs.List.{list_all}
use Rattle.std.specs.Option.{option_and_then, option_map_or}
use Rattle.std.specs.BTreeMap.{BTreeMap, get_by_text}
use Rattle.std.specs.Str.{bytes_eq}
use Rattle.std.specs.declared.alloc.Global.{Global}
use Rattle.std.specs.declared.string.String.{String}
use Rattle.cm_types.specs.ExternNames.{NameTree, plain, method, static, constructor, interface}
use Rattle.cm_types.specs.ExternNames.{form_of}
use Rattle.cm_types.specs.Resources.{same_resource}
use Rattle.cm_types.specs.declared.resource.ResourceId.{ResourceId}
use Rattle.cm_validate_model.specs.declared.fault.ValidReason.{ValidReason}
use Rattle.cm_validate_model.specs.declared.fault.ValidReason.TheVariants as reason
use Rattle.cm_validate_model.specs.ItemNames.{is_plain}
use Rattle.cm_validate_model.specs.Reasons.{unless}
use Rattle.cm_validate_model.specs.TypeRules.{are_distinct_names}
use Rattle.cm_validate_instances.specs.declared.sketches.FuncSketch.{FuncSketch}
use Rattle.cm_validate_instances.specs.declared.item_sketches.ItemSketch.{ItemSketch}
use Rattle.cm_validate_instances.specs.declared.item_sketches.ItemSketch.TheVariants as item_sketch
use Rattle.cm_validate_instances.specs.ItemSketches.{SketchedItem, resource_sketched}

-- the resource that an instance has under a name, exactly as it is written
abbrev pub resource_under : List SketchedItem → List ℕ → Option ResourceId
resource_under [] name = None
resource_under (i ∷ is) name =
    if bytes_eq i.0 name then resource_sketched i.1 else resource_under is name

-- whether it is this resource
abbrev pub is_of : ResourceId → Option ResourceId → Bool
is_of r found = option_map_or (same_resource r) found false

-- whether a function of an instance with these items may have a name of this form
abbrev pub may_name_func : List SketchedItem → FuncSketch → NameTree → Bool
may_name_func items f (plain l) = true
may_name_func items f (method r m) =
    option_map_or (λ s. is_of s f.self_borrow) (resource_under items r) false
may_name_func items f (static r m) = option_map_or (λ s. true) (resource_under items r) false
may_name_func items f (constructor r) =
    option_map_or (λ s. is_of s f.own_result) (resource_under items r) false
may_name_func items f (interface ns pkg name version) = false

abbrev pub may_name : List SketchedItem → ItemSketch → NameTree → Bool
may_name items (item_sketch.Func f) form = may_name_func items f form
may_name items _ form = is_plain form

-- whether the name of an item of an instance with these items is one that it may have
abbrev pub is_named_well : List SketchedItem → SketchedItem → Bool
is_named_well items i = option_map_or (may_name items i.1) (form_of i.0) false

abbrev pub are_all_well_named : List SketchedItem → Bool
are_all_well_named items = list_all (is_named_well items) items

-- the rules that the names of the items violate
abbrev pub item_name_faults : List SketchedItem → List ValidReason
item_name_faults items =
    unless (are_distinct_names (map (λ i. i.0) items)) reason.DuplicateName
    ++ unless (are_all_well_named items) reason.BadAnnotatedName

-- ---- resources by name

-- the resource under a name
abbrev pub resource_found
    : BTreeMap (String Global) (Option ResourceId) → List ℕ → Option ResourceId
resource_found resources name = option_and_then (λ o. o) (get_by_text resources name)

-- they are those of these items
abbrev pub AreResources
    : BTreeMap (String Global) (Option ResourceId) → List SketchedItem → Type 0
AreResources resources items =
    (name : List ℕ) → resource_found resources name ≡ resource_under items name
