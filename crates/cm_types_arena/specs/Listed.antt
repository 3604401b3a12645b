-- Imports, exports and items in both of their forms: those of a component, and those whose names
-- share their fronts (Binary.md, "Import and Export Definitions").
use Rattle.std.specs.Prelude.{ℕ, Bool, List, [], Option, Some, None, length, map, slice_get}
use Rattle.cm_types.specs.ExternNames.{name_spelling}
use Rattle.cm_types.specs.ExternNameForms.{form_tree}
use Rattle.cm_types.specs.Signatures.{ExternTy, NamedExtern, func, instance}
use Rattle.cm_types.specs.Signatures as ty
use Rattle.cm_types_arena.specs.Places.{funcs_of, types_of}
use Rattle.cm_types_arena.specs.declared.types.Types.{Types}
use Rattle.cm_types_arena.specs.declared.moves.Move.{Move}
use Rattle.cm_types_arena.specs.Placed.{is_there, moved_by, placed_func}
use Rattle.cm_types_arena.specs.Instances.{are_items_there, desc_of, is_desc_there, items_of}
use Rattle.cm_types_arena.specs.Instances.{replaced_item}
use Rattle.cm_types_arena.specs.Externs.{are_externs_in, externs_in}
use Rattle.cm_types_arena.specs.declared.instances.ItemDesc.{ItemDesc}
use Rattle.cm_types_arena.specs.Numbered.{number_in}
use Rattle.cm_types_arena.specs.Shared.{are_shared_externs_there, are_shared_items_there}
use Rattle.cm_types_arena.specs.Shared.{shared_externs_of, shared_items_of}
use Rattle.cm_types_arena.specs.declared.named_externs.Desc.{Desc}
use Rattle.cm_types_arena.specs.declared.named_externs.Desc.TheVariants as is
use Rattle.cm_types_arena.specs.declared.named_externs.Externs.{Externs}
use Rattle.cm_types_arena.specs.declared.named_externs.Externs.TheVariants as externs
use Rattle.cm_types_arena.specs.declared.named_externs.Items.{Items}
use Rattle.cm_types_arena.specs.declared.named_externs.Items.TheVariants as items
use Rattle.cm_types_arena.specs.declared.named_externs.NamedDesc.{NamedDesc}
use Rattle.cm_types_arena.specs.declared.named_externs.NamedItem.{NamedItem}

-- ---- the items of an instance

-- the move that an import makes of their resources
abbrev pub by_of : Items → Option Move
by_of (items.OfComponent list by) = by
by_of (items.OfWorld s) = None

-- the items as they stand, before that move
abbrev pub items_listed : Types → Items → List ty.NamedItem
items_listed t (items.OfComponent list by) = items_of (types_of t) (funcs_of t) list.now
items_listed t (items.OfWorld s) = shared_items_of (types_of t) (funcs_of t) s.now

-- an item as it stands
abbrev pub item_in : Types → NamedItem → ty.NamedItem
item_in t i = record {
  name = name_spelling (form_tree i.name);
  desc = desc_of (types_of t) (funcs_of t) i.desc;
}

-- the items as the import or export counts their resources
abbrev pub brought_items : Types → Items → List ty.NamedItem
brought_items t is = map (replaced_item (moved_by (by_of is))) (items_listed t is)

-- ---- imports and exports

abbrev pub desc_in : Types → Desc → ExternTy
desc_in t (is.Func p) = func (placed_func (funcs_of t) p)
desc_in t (is.Instance list) = instance (brought_items t list)

abbrev pub extern_in : Types → NamedDesc → NamedExtern
extern_in t e = record { name = name_spelling (form_tree e.name); desc = desc_in t e.desc }

abbrev pub externs_listed : Types → Externs → List NamedExtern
externs_listed t (externs.OfComponent es) = externs_in t es.externs.items
externs_listed t (externs.OfWorld s) = shared_externs_of (types_of t) (funcs_of t) s

-- ---- the names of the items of those that are instances

abbrev pub names_of_desc : ExternTy → List (List ℕ)
names_of_desc (func f) = []
names_of_desc (instance items) = map (λ i. i.name) items

abbrev pub names_of_named : Option NamedExtern → List (List ℕ)
names_of_named None = []
names_of_named (Some e) = names_of_desc e.desc

-- the names of the items of the one at a place, which a function has not
abbrev pub names_at : Types → Externs → ℕ → List (List ℕ)
names_at t es place = names_of_named (slice_get (externs_listed t es) place)

-- the number of the one at a place, if it has one: a world's have none
abbrev pub number_at : Externs → ℕ → Option ℕ
number_at (externs.OfComponent es) place = number_in es.numbers.items place
number_at (externs.OfWorld s) place = None

-- ---- their places are in the arena

abbrev pub is_item_in : Types → ItemDesc → Bool
is_item_in t d = is_desc_there (length (types_of t)) (length (funcs_of t)) d

abbrev pub are_items_in : Types → Items → Bool
are_items_in t (items.OfComponent list by) =
    are_items_there (length (types_of t)) (length (funcs_of t)) list.now
are_items_in t (items.OfWorld s) =
    are_shared_items_there (length (types_of t)) (length (funcs_of t)) s.now.items.items

abbrev pub is_desc_in : Types → Desc → Bool
is_desc_in t (is.Func p) = is_there (length (funcs_of t)) p
is_desc_in t (is.Instance list) = are_items_in t list

abbrev pub are_in : Types → Externs → Bool
are_in t (externs.OfComponent es) = are_externs_in t es.externs.items
are_in t (externs.OfWorld s) =
    are_shared_externs_there (length (types_of t)) (length (funcs_of t)) s.externs.items
