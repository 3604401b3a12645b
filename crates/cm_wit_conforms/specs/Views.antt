-- What the code compares, among the types of the signature's arena and of the world's.
use Rattle.std.specs.Prelude.{ℕ, List, [], Option, Some, None, slice_get}
use Rattle.std.specs.Option.{option_and_then, option_map}
use Rattle.cm_types.specs.Signatures.{ItemTy, ExternTy}
use Rattle.cm_types_arena.specs.declared.moves.Move.{Move}
use Rattle.cm_types_arena.specs.Places.{types_of, funcs_of}
use Rattle.cm_types_arena.specs.declared.types.Types.{Types}
use Rattle.cm_types_arena.specs.Placed.{moved_by}
use Rattle.cm_types_arena.specs.Instances.{desc_of, replaced_desc}
use Rattle.cm_types_arena.specs.declared.instances.ItemDesc.{ItemDesc}
use Rattle.cm_types_numbers.specs.Moved.{brought_func, brought_type}
use Rattle.cm_types_arena.specs.Listed.{by_of, externs_listed, items_listed}
use Rattle.cm_types_arena.specs.declared.named_externs.Externs.{Externs}
use Rattle.cm_types_arena.specs.declared.named_externs.Items.{Items}
use Rattle.cm_wit_conforms.specs.Comparisons as all
use Rattle.cm_wit_conforms.specs.Comparisons.{Entry, nothing, two_sorts, two_funcs, two_types}
use Rattle.cm_wit_conforms.specs.Comparisons.{extern_entries, two_resources}
use Rattle.cm_wit_conforms.specs.declared.fault.ConformList.{ConformList}
use Rattle.cm_wit_conforms.specs.declared.fault.ConformList.TheVariants as walked
use Rattle.cm_wit_conforms.specs.declared.comparisons.Comparison.{Comparison}
use Rattle.cm_wit_conforms.specs.declared.comparisons.Comparison.TheVariants as two
use Rattle.cm_wit_conforms.specs.declared.comparisons.PlacedComparison.{PlacedComparison}

-- what is compared
abbrev pub comparison_of : Types → Types → Comparison → all.Comparison
comparison_of have world two.Nothing = nothing
comparison_of have world two.Sorts = two_sorts
comparison_of have world (two.Funcs f g) = two_funcs (brought_func have f) (brought_func world g)
comparison_of have world (two.Types x y) = two_types (brought_type have x) (brought_type world y)
comparison_of have world (two.Resources a b) = two_resources a b

abbrev pub entry_of : Types → Types → PlacedComparison → Entry
entry_of have world e = record { item = e.item; what = comparison_of have world e.what }

-- an item of an instance, as an import or export counts its resources
abbrev pub brought_desc : Types → Option Move → ItemDesc → ItemTy
brought_desc types by desc =
    replaced_desc (moved_by by) (desc_of (types_of types) (funcs_of types) desc)

-- that of the two which a list is of, and the other
abbrev pub own : {A : Type 0} → ConformList → A → A → A
own walked.WorldExports have world = world
own walked.HaveImports have world = have

abbrev pub other : {A : Type 0} → ConformList → A → A → A
other walked.WorldExports have world = have
other walked.HaveImports have world = world

-- what the item is that stands at a place, as it stands, if one does
abbrev pub item_stands : Types → Items → Option ℕ → Option ItemTy
item_stands t others place =
    option_map (λ i. i.desc) (option_and_then (slice_get (items_listed t others)) place)

-- the same as an import or export counts its resources
abbrev pub item_found : Types → Items → Option ℕ → Option ItemTy
item_found t others place =
    option_map (replaced_desc (moved_by (by_of others))) (item_stands t others place)

-- what the import or export is that stands at a place, if one does
abbrev pub extern_found : Types → Externs → Option ℕ → Option ExternTy
extern_found t others place =
    option_map (λ e. e.desc) (option_and_then (slice_get (externs_listed t others)) place)

-- what is compared of an import or export, if there is one
abbrev pub entries_of : ConformList → ℕ → Option ExternTy → Option ExternTy → List Entry
entries_of list place found None = []
entries_of list place found (Some x) = extern_entries list place found x
