-- What the code holds against each other, among the types of two arenas; and its tables.
use Rattle.std.specs.Prelude.{◌≡◌, ℕ, List, [], Option, Some, map, option_and_then}
use Rattle.std.specs.Prelude.{slice_get, unwrap_or}
use Rattle.std.specs.BTreeMap.{get}
use Rattle.std.specs.BTreeSet.{BTreeSet, contains}
use Rattle.std.specs.List.{list_any}
use Rattle.std.specs.Option.{option_map, option_map_or}
use Rattle.std.specs.Ordering.{nat_cmp}
use Rattle.cm_types.specs.declared.resource.ResourceId.{ResourceId}
use Rattle.cm_types_arena.specs.Replaced.{Standing}
use Rattle.cm_types_arena.specs.Instances.{desc_of, replaced_desc}
use Rattle.cm_types_arena.specs.Listed.{brought_items, by_of, externs_listed, items_listed}
use Rattle.cm_types_arena.specs.Placed.{moved_by}
use Rattle.cm_types_arena.specs.Places.{types_of, funcs_of}
use Rattle.cm_types_arena.specs.declared.instances.ItemDesc.{ItemDesc}
use Rattle.cm_types_arena.specs.declared.moves.Move.{Move}
use Rattle.cm_types_arena.specs.declared.named_externs.Externs.{Externs}
use Rattle.cm_types_arena.specs.declared.named_externs.Items.{Items}
use Rattle.cm_types_arena.specs.declared.types.Types.{Types}
use Rattle.cm_types.specs.Signatures.{ItemTy, NamedExtern, SignatureTy}
use Rattle.cm_types_numbers.specs.Moved.{brought_func, brought_type}
use Rattle.cm_types_numbers.specs.Numbering.{numbering}
use Rattle.cm_types_numbers.specs.PlacedTables.{KnowsPlaced}
use Rattle.cm_hux_diff.specs.Breaking.{at_host, marked}
use Rattle.cm_hux_diff.specs.Facing.{best_face, host_face, is_at, names, user_face}
use Rattle.cm_hux_diff.specs.Held as all
use Rattle.cm_hux_diff.specs.declared.links.Links.{Links}
use Rattle.cm_hux_diff.specs.declared.facing.Face.{Face}
use Rattle.cm_hux_diff.specs.declared.held.Entry.{Entry}
use Rattle.cm_hux_diff.specs.declared.held.Held.{Held}
use Rattle.cm_hux_diff.specs.declared.held.TwoInstances.{TwoInstances}
use Rattle.cm_hux_diff.specs.declared.held.Held.TheVariants as held
use Rattle.cm_hux_diff.specs.declared.bound.Bound.{Bound}
use Rattle.cm_hux_diff.specs.declared.bound.Side.{Side}
use Rattle.cm_hux_diff.specs.declared.judging.Tables.{Tables}
use Rattle.cm_hux_diff.specs.declared.replacing.AtHost.{AtHost}

-- what is held, where the first arena has the types that are wanted
abbrev pub held_view : Types → Types → Held → all.Held
held_view w o held.Nothing = all.nothing
held_view w o held.Several = all.several
held_view w o held.Sorts = all.sorts
held_view w o (held.Funcs f g) = all.funcs (brought_func w f) (brought_func o g)
held_view w o (held.Types x y) = all.types (brought_type w x) (brought_type o y)
held_view w o (held.Resources a b) = all.resources a b

abbrev pub entry_view : Types → Types → Entry → all.Entry
entry_view w o e = record { place = e.place; item = e.item; held = held_view w o e.held }

-- an item of an instance, as an import or export counts its resources
abbrev pub brought_desc : Types → Option Move → ItemDesc → ItemTy
brought_desc types by desc =
    replaced_desc (moved_by by) (desc_of (types_of types) (funcs_of types) desc)

-- what the item is that stands at a place, as it stands, if one does
abbrev pub item_stands : Types → Items → Option ℕ → Option ItemTy
item_stands t items place =
    option_map (λ i. i.desc) (option_and_then (slice_get (items_listed t items)) place)

-- the same as an import or export counts its resources
abbrev pub item_brought : Types → Items → Option ℕ → Option ItemTy
item_brought t items place =
    option_map (replaced_desc (moved_by (by_of items))) (item_stands t items place)

-- what is held of two instances
abbrev pub instance_entries : Types → Types → TwoInstances → List all.Entry
instance_entries w o two =
    all.item_entries two.place (brought_items o two.offered) 0 (brought_items w two.wanted)

-- what is held of what is wanted at a place, given what faces it
abbrev pub entries_at : Types → Types → ℕ → Externs → Externs → Face → List all.Entry
entries_at w o place wanted offered face =
    option_map_or (λ x. all.face_entries place (externs_listed o offered) x.desc face)
    (slice_get (externs_listed w wanted) place) []

-- what a table has for the resource of a number
abbrev pub bound_in : Bound → ℕ → Option ResourceId
bound_in table n = get nat_cmp table.numbers n

-- what stands for the resources of a side
abbrev pub standing_of : Side → Standing
standing_of side r = unwrap_or (bound_in side.bound.now r.number) (marked side.mark r)

-- What is known of the types of both sides are their numbers, each resource replaced.
pub record AreKnown (wanted offered : Side) (tables : Tables) : Type 0 where
  pub of_wanted :
      KnowsPlaced (numbering tables.numbers) (standing_of wanted) wanted.types.now tables.wanted
  pub of_offered :
      KnowsPlaced (numbering tables.numbers) (standing_of offered) offered.types.now tables.offered

-- what faces an export of the old one, by tables
abbrev pub faces_in : Links → List ℕ → Face
faces_in links =
    user_face links.imports.names.items links.exports.names.items links.offers.names.items

-- These are the places of the exports of the new one that fit the name of one of the old one's, of
-- several the greatest.
abbrev pub IsFaced : Links → BTreeSet ℕ → Type 0
IsFaced links places = (n : ℕ) → contains nat_cmp places n
    ≡ list_any (is_at n) (map (best_face links.offers.names.items) links.exports.names.items)

-- The names of the imports and exports of the old one, and of the exports of the new one, are in
-- these tables.
pub record LinksOf (old new : SignatureTy) (links : Links) : Type 0 where
  pub imports : links.imports.names.items ≡ names old.imports
  pub exports : links.exports.names.items ≡ names old.exports
  pub offers : links.offers.names.items ≡ names new.exports

-- What a signature imports was held against these imports of the old one, which a host serves.
pub record IsAtHost (served imports : List NamedExtern) (w o : Types) (at : AtHost) : Type 0 where
  pub faces : at.faces.items ≡ map (host_face (names served)) (names imports)
  pub entries : map (entry_view w o) at.entries.items ≡ all.host_entries served imports
  pub bound : (n : ℕ) → bound_in at.bound n ≡ at_host served imports n
