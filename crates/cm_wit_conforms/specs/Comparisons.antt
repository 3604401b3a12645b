-- What is held against what where a signature is to fit a world (WIT.md, "Worlds": a component fits
-- a world that imports all that it imports, and whose exports it all has; the order is this
-- project's own choice).
use Rattle.std.specs.Prelude.{ℕ, ◌+◌, List, [], ◌∷◌, ◌++◌, Option, Some, None}
use Rattle.std.specs.Prelude.{if◌then◌else◌}
use Rattle.std.specs.Option.{option_map}
use Rattle.std.specs.Str.{bytes_eq}
use Rattle.cm_types.specs.Types.{Ty, FuncTy}
use Rattle.cm_types.specs.Signatures.{ItemTy, NamedItem, func_item, equal_type, equal_resource}
use Rattle.cm_types.specs.Signatures.{fresh_resource, ExternTy, NamedExtern, SignatureTy, func}
use Rattle.cm_types.specs.Signatures.{instance}
use Rattle.cm_types.specs.declared.resource.ResourceId.{ResourceId}
use Rattle.cm_wit_conforms.specs.declared.fault.ConformList.{ConformList}
use Rattle.cm_wit_conforms.specs.declared.fault.ConformList.TheVariants as walked
use Rattle.cm_wit_conforms.specs.declared.fault.ConformItem.{ConformItem}

-- what stands under one name: the signature's first, then the world's
pub data Comparison : Type 0 where
  nothing : Comparison
  two_sorts : Comparison
  two_funcs : FuncTy → FuncTy → Comparison
  two_types : Ty → Ty → Comparison
  two_resources : ResourceId → ResourceId → Comparison

-- a comparison, and where it is made
pub record Entry : Type 0 where
  pub item : ConformItem
  pub what : Comparison

-- two items of instances: a resource is held against a resource, be it fresh or equal to another
abbrev pub two_items : ItemTy → ItemTy → Comparison
two_items (func_item f) (func_item g) = two_funcs f g
two_items (equal_type x) (equal_type y) = two_types x y
two_items (equal_resource a) (equal_resource b) = two_resources a b
two_items (equal_resource a) (fresh_resource b) = two_resources a b
two_items (fresh_resource a) (equal_resource b) = two_resources a b
two_items (fresh_resource a) (fresh_resource b) = two_resources a b
two_items x y = two_sorts

-- Of the world's exports each is looked for in the signature, and of the signature's imports each
-- in the world: so what a list has is the world's, or the signature's.
abbrev pub facing : {A : Type 0} → (A → A → Comparison) → ConformList → A → A → Comparison
facing two walked.WorldExports x found = two found x
facing two walked.HaveImports x found = two x found

-- ---- names

-- what has this name, the first where there are several
abbrev pub named : {A B : Type 0} → (A → List ℕ) → (A → B) → List ℕ → List A → Option B
named name_of what name [] = None
named name_of what name (x ∷ xs) =
    if bytes_eq name (name_of x) then Some (what x) else named name_of what name xs

abbrev pub item_named : List ℕ → List NamedItem → Option ItemTy
item_named name items = named (λ i. i.name) (λ i. i.desc) name items

abbrev pub extern_named : List ℕ → List NamedExtern → Option ExternTy
extern_named name externs = named (λ e. e.name) (λ e. e.desc) name externs

-- ---- lists

abbrev pub or_nothing : Option Comparison → Comparison
or_nothing None = nothing
or_nothing (Some what) = what

-- an item against that of its name
abbrev pub item_comparison : ConformList → List NamedItem → NamedItem → Comparison
item_comparison list others x =
    or_nothing (option_map (facing two_items list x.desc) (item_named x.name others))

-- an item of the import or export at a place, and one as a whole
abbrev pub item_entry : ConformList → ℕ → ℕ → Comparison → Entry
item_entry list place n what =
    record { item = record { list = list; place = place; item = Some n }; what = what }

abbrev pub whole : ConformList → ℕ → Comparison → List Entry
whole list place what =
    record { item = record { list = list; place = place; item = None }; what = what } ∷ []

-- items of an instance, counted from n on, against those of another
abbrev pub item_entries : ConformList → ℕ → List NamedItem → ℕ → List NamedItem → List Entry
item_entries list place others n [] = []
item_entries list place others n (x ∷ xs) =
    item_entry list place n (item_comparison list others x)
    ∷ item_entries list place others (n + 1) xs

-- an import or export against that of its name
abbrev pub extern_entries : ConformList → ℕ → Option ExternTy → ExternTy → List Entry
extern_entries list place None x = whole list place nothing
extern_entries list place (Some (func g)) (func f) = whole list place (facing two_funcs list f g)
extern_entries list place (Some (instance others)) (instance items) =
    item_entries list place others 0 items
extern_entries list place (Some (func g)) (instance items) = whole list place two_sorts
extern_entries list place (Some (instance others)) (func f) = whole list place two_sorts

-- imports or exports, counted from n on, against those of another list
abbrev pub entries_from : ConformList → List NamedExtern → ℕ → List NamedExtern → List Entry
entries_from list others n [] = []
entries_from list others n (x ∷ xs) =
    extern_entries list n (extern_named x.name others) x.desc ++ entries_from list others (n + 1) xs

-- all that is compared: the exports of the world in its order, then the imports of the signature in
-- its own
abbrev pub entries : SignatureTy → SignatureTy → List Entry
entries have world =
    entries_from walked.WorldExports have.exports 0 world.exports
    ++ entries_from walked.HaveImports world.imports 0 have.imports
