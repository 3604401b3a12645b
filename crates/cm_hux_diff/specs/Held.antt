-- What is wanted, held against what is offered under its name: imports and exports, and the items
-- of instances (Binary.md, "Import and Export Definitions").
use Rattle.std.specs.Prelude.{ℕ, ◌+◌, List, [], ◌∷◌, ◌++◌, map, Option, Some, None}
use Rattle.std.specs.Prelude.{option_and_then, slice_get}
use Rattle.std.specs.Option.{option_map}
use Rattle.cm_types.specs.Types.{Ty, FuncTy}
use Rattle.cm_types.specs.Signatures.{ItemTy, NamedItem, func_item, equal_type, equal_resource}
use Rattle.cm_types.specs.Signatures.{fresh_resource, ExternTy, NamedExtern, SignatureTy, func}
use Rattle.cm_types.specs.Signatures.{instance}
use Rattle.cm_types.specs.declared.resource.ResourceId.{ResourceId}
use Rattle.cm_wit_conforms.specs.Places.{place_in}
use Rattle.cm_hux_diff.specs.Facing.{host_face, names, user_face}
use Rattle.cm_hux_diff.specs.declared.facing.Face.{Face}
use Rattle.cm_hux_diff.specs.declared.facing.Face.TheVariants as face

-- what is wanted first, then what is offered: nothing, several, another sort, or two of one sort
pub data Held : Type 0 where
  nothing : Held
  several : Held
  sorts : Held
  funcs : FuncTy → FuncTy → Held
  types : Ty → Ty → Held
  resources : ResourceId → ResourceId → Held

-- the same, and where: the place of the import or export that is wanted, and of an item of it
pub record Entry : Type 0 where
  pub place : ℕ
  pub item : Option ℕ
  pub held : Held

-- two items: a resource is held against a resource, be it fresh or equal to another
abbrev pub two_items : ItemTy → ItemTy → Held
two_items (func_item f) (func_item g) = funcs f g
two_items (equal_type x) (equal_type y) = types x y
two_items (equal_resource a) (equal_resource b) = resources a b
two_items (equal_resource a) (fresh_resource b) = resources a b
two_items (fresh_resource a) (equal_resource b) = resources a b
two_items (fresh_resource a) (fresh_resource b) = resources a b
two_items x y = sorts

-- an item against the one that is offered, if one is
abbrev pub desc_held : ItemTy → Option ItemTy → Held
desc_held wanted None = nothing
desc_held wanted (Some offered) = two_items wanted offered

-- what the first of these items is that has this name
abbrev pub item_named : List NamedItem → List ℕ → Option ItemTy
item_named items name =
    option_map (λ i. i.desc)
    (option_and_then (slice_get items) (place_in (map (λ i. i.name) items) name))

-- an item against the first of these that has its name
abbrev pub item_held : List NamedItem → NamedItem → Held
item_held offered x = desc_held x.desc (item_named offered x.name)

abbrev pub item_entry : ℕ → ℕ → Held → Entry
item_entry place n held = record { place = place; item = Some n; held = held }

abbrev pub whole : ℕ → Held → List Entry
whole place held = record { place = place; item = None; held = held } ∷ []

-- items of the import or export at a place, counted from n on
abbrev pub item_entries : ℕ → List NamedItem → ℕ → List NamedItem → List Entry
item_entries place offered n [] = []
item_entries place offered n (x ∷ xs) =
    item_entry place n (item_held offered x) ∷ item_entries place offered (n + 1) xs

-- what is wanted at a place, against what is offered; more items may be offered
abbrev pub two_entries : ℕ → ExternTy → ExternTy → List Entry
two_entries place (func f) (func g) = whole place (funcs f g)
two_entries place (instance wanted) (instance offered) = item_entries place offered 0 wanted
two_entries place (func f) (instance offered) = whole place sorts
two_entries place (instance wanted) (func g) = whole place sorts

abbrev pub offered_entries : ℕ → ExternTy → Option NamedExtern → List Entry
offered_entries place wanted None = whole place nothing
offered_entries place wanted (Some offered) = two_entries place wanted offered.desc

-- the same, given what faces it among these
abbrev pub face_entries : ℕ → List NamedExtern → ExternTy → Face → List Entry
face_entries place offered wanted face.LeftOut = []
face_entries place offered wanted face.Nothing = whole place nothing
face_entries place offered wanted face.Several = whole place several
face_entries place offered wanted (face.One at) =
    offered_entries place wanted (slice_get offered at)

-- all that is wanted, counted from n on, given what faces each name among what is offered
abbrev pub entries_from :
    (List ℕ → Face) → List NamedExtern → ℕ → List NamedExtern → List Entry
entries_from facing offered n [] = []
entries_from facing offered n (x ∷ xs) =
    face_entries n offered x.desc (facing x.name) ++ entries_from facing offered (n + 1) xs

-- what is imported, of a host that serves these imports of the old one
abbrev pub host_entries : List NamedExtern → List NamedExtern → List Entry
host_entries served imports = entries_from (host_face (names served)) served 0 imports

-- what faces the exports of the old one in the new one
abbrev pub used_face : SignatureTy → SignatureTy → List ℕ → Face
used_face old new =
    user_face (names old.imports) (names old.exports) (names new.exports)

-- the exports of the old one, of the new one
abbrev pub user_entries : SignatureTy → SignatureTy → List Entry
user_entries old new = entries_from (used_face old new) new.exports 0 old.exports
