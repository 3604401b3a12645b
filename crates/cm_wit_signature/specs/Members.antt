-- The items of an instance, as the text of its interface has them (WIT.md, "Interfaces"; for the
-- names of the functions of a resource Explainer.md, "Import and Export Definitions").
use Rattle.std.specs.Prelude.{ℕ, List, [], ◌∷◌, Option, map}
use Rattle.std.specs.List.{flat_map}
use Rattle.std.specs.Option.{option_map, option_and_then}
use Rattle.cm_types.specs.Types.{FuncTy}
use Rattle.cm_types.specs.Signatures.{ItemTy, NamedItem, func_item, equal_type, equal_resource}
use Rattle.cm_types.specs.Signatures.{fresh_resource}
use Rattle.cm_types.specs.ExternNames.{name_spelling}
use Rattle.cm_types.specs.ExternNames as name
use Rattle.cm_wit_reading.specs.Signatures.{Func}
use Rattle.cm_wit_reading.specs.Trees.{Interface, InterfaceItem, uses, defines, has_func, TypeDef}
use Rattle.cm_wit_reading.specs.Trees.{alias, record_of, variant, enum, flags, ResourceFunc, method}
use Rattle.cm_wit_reading.specs.Trees.{static, constructor}
use Rattle.cm_wit_reading.specs.Trees as tree
use Rattle.cm_wit_meanings.specs.Scopes.{Meaning, Scope, value, resource, as_resource}
use Rattle.cm_wit_meanings.specs.Meanings.{each_meaning, func_meaning, resource_func_meaning}
use Rattle.cm_wit_tables.specs.Worlds.{used_as}

-- what an interface has of its own under a name: a used type, by the name that it gets; a type that
-- it defines; a function of the resource of this name; or a function
pub data Member : Type 0 where
  used : List ℕ → Member
  declared : List ℕ → Member
  of_resource : List ℕ → ResourceFunc → Member
  function : List ℕ → Func → Member

-- the functions of what is defined
abbrev pub resource_funcs : TypeDef → List ResourceFunc
resource_funcs (alias t) = []
resource_funcs (record_of fs) = []
resource_funcs (variant cs) = []
resource_funcs (enum names) = []
resource_funcs (flags names) = []
resource_funcs (tree.resource fs) = fs

-- what an item of an interface's text has, in order: a resource stands before its functions
abbrev pub members_of : InterfaceItem → List Member
members_of (uses u) = map (λ x. used (used_as x)) u.names
members_of (defines n t) = declared n ∷ map (of_resource n) (resource_funcs t)
members_of (has_func n f) = function n f ∷ []

abbrev pub members : Interface → List Member
members i = flat_map members_of i.items

-- ---- what they are in an instance

-- the name of a function of a resource
abbrev pub func_name : List ℕ → ResourceFunc → List ℕ
func_name r (method m f) = name_spelling (name.method r m)
func_name r (static m f) = name_spelling (name.static r m)
func_name r (constructor ps) = name_spelling (name.constructor r)

-- a used type is equal to the one that is used
abbrev pub used_type : Meaning → ItemTy
used_type (value t) = equal_type t
used_type (resource r) = equal_resource r

-- a type that is defined is equal to what its definition says, but a resource is one of the
-- instance's own
abbrev pub own_type : Meaning → ItemTy
own_type (value t) = equal_type t
own_type (resource r) = fresh_resource r

-- the type of a function of the resource that a name stands for
abbrev pub member_func : Scope → List ℕ → ResourceFunc → Option FuncTy
member_func s r f = option_and_then (λ x. resource_func_meaning s x f)
    (option_and_then as_resource (s r))

-- an item with its name
abbrev pub item_with : List ℕ → ItemTy → NamedItem
item_with n desc = record { name = n; desc = desc }

-- the item that a member is, where names stand for what this scope says; none where one stands for
-- nothing
abbrev pub member_item : Scope → Member → Option NamedItem
member_item s (used n) = option_map (λ m. item_with n (used_type m)) (s n)
member_item s (declared n) = option_map (λ m. item_with n (own_type m)) (s n)
member_item s (of_resource r f) =
    option_map (λ t. item_with (func_name r f) (func_item t)) (member_func s r f)
member_item s (function n f) = option_map (λ t. item_with n (func_item t)) (func_meaning s f)

-- the items of an instance, in the order of its interface's text
abbrev pub items_in : Scope → Interface → Option (List NamedItem)
items_in s i = each_meaning (member_item s) (members i)
