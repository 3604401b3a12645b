-- The declarations of the interfaces that a world imports and exports (WIT.md, "Worlds"; which
-- instance a used type comes from is this project's own choice).
use Rattle.std.specs.Prelude.{ℕ, ◌+◌, ◌==◌, ◌&&◌, nat_lt, Bool, true, false, List, [], ◌∷◌, ◌++◌}
use Rattle.std.specs.Prelude.{Option, Some, map, filter, slice_get, not}
use Rattle.std.specs.List.{flat_map, position_from}
use Rattle.std.specs.Option.{option_map, option_map_or, option_and_then}
use Rattle.cm_wit_reading.specs.Trees.{File, UsedName, InterfaceItem}
use Rattle.cm_wit_reading.specs.Trees.{uses, defines, has_func}
use Rattle.cm_wit_worlds.specs.Interfaces as all
use Rattle.cm_wit_worlds.specs.Interfaces.{PlacedInterface}
use Rattle.cm_wit_tables.specs.Declarations.{Declaration, brought, defined}

-- an interface, by its number among all, as it is imported or exported by a world
pub record Instance : Type 0 where
  pub exported : Bool
  pub interface : ℕ

-- the instances of a world that imports and exports these, in order: imports first. Numbers from
-- `count`, that of all interfaces, on are functions.
abbrev pub instances : ℕ → List ℕ → List ℕ → List Instance
instances count into out =
    map (λ n. record { exported = false; interface = n }) (filter (λ n. nat_lt n count) into)
    ++ map (λ n. record { exported = true; interface = n }) (filter (λ n. nat_lt n count) out)

abbrev pub same_side : Bool → Bool → Bool
same_side true b = b
same_side false b = not b

-- whether an instance is of this interface, on this side
abbrev pub is_instance : Bool → ℕ → Instance → Bool
is_instance exported n x = same_side exported x.exported && (n == x.interface)

abbrev pub place_of : List Instance → Bool → ℕ → Option ℕ
place_of xs exported n = position_from (is_instance exported n) 0 xs

-- where an instance has the types that it uses from an interface: an import among the imports, an
-- export among the exports, where the world exports that interface, else among the imports
abbrev pub used_place : List Instance → Bool → ℕ → Option ℕ
used_place xs false n = place_of xs false n
used_place xs true n = option_map_or Some (place_of xs true n) (place_of xs false n)

-- the name that a used type gets
abbrev pub used_as : UsedName → List ℕ
used_as u = option_map_or (λ new. new) u.new_name u.name

-- a used type of the l-th instance, where the path leads to the interface of this number
abbrev pub used_declaration : List Instance → Bool → ℕ → Option ℕ → UsedName → Declaration
used_declaration xs exported l from u = record {
  in_list = l;
  name = used_as u;
  is = brought
      (option_map (λ i. (i, u.name)) (option_and_then (used_place xs exported) from));
}

-- what an item of an interface declares, in the l-th instance, in a package at a place
abbrev pub item_declarations : List File → List Instance → Bool → ℕ → ℕ → InterfaceItem
    → List Declaration
item_declarations fs xs exported l p (uses u) =
    map (used_declaration xs exported l (all.target fs p u.path)) u.names
item_declarations fs xs exported l p (defines name t) =
    record { in_list = l; name = name; is = defined t } ∷ []
item_declarations fs xs exported l p (has_func name f) = []

-- the declarations of the l-th instance, in the order of its interface's text
abbrev pub instance_declarations : List File → List Instance → ℕ → Instance → List Declaration
instance_declarations fs xs l x =
    option_map_or (λ i. flat_map (item_declarations fs xs x.exported l i.place) i.interface.items)
    (slice_get (all.interfaces fs) x.interface) []

-- those of these instances, of which the first is the l-th
abbrev pub declarations_from : List File → List Instance → ℕ → List Instance → List Declaration
declarations_from fs xs l [] = []
declarations_from fs xs l (y ∷ ys) =
    instance_declarations fs xs l y ++ declarations_from fs xs (l + 1) ys

-- the declarations of all instances of a world
abbrev pub declarations : List File → List Instance → List Declaration
declarations fs xs = declarations_from fs xs 0 xs
