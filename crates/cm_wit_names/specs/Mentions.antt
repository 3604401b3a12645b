-- Mentions: what each name of a file declares, and what it refers to.
use Rattle.std.specs.Prelude.{ℕ, ◌+◌, ◌*◌, Bool, false, List, Option, Some, None}
use Rattle.cm_types.specs.ExternNames.{NameTree}

-- what a name refers to
pub data Reference : Type 0 where
  no_reference : Reference
  -- the interface of this name
  to_interface : List ℕ → Reference
  -- in the interface of the first name, the type of the second
  to_used : List ℕ → List ℕ → Reference
  -- a type, and a resource, of the interface or world whose name is the n-th name of the file
  to_type : ℕ → List ℕ → Reference
  to_resource : ℕ → List ℕ → Reference

-- a name in a list of names that are distinct: the number of the list, the full name, whether that
-- is an interface's of the file's own package, and whether an implied `self` stands before it
pub record ListedName : Type 0 where
  pub in_list : ℕ
  pub name : NameTree
  pub is_own : Bool
  pub after_self : Bool

-- a mention: what it declares, as what it is known (an interface by 0 and its name, a type by the
-- number of its interface's name and its own), what it refers to, the mention of the declaration
-- in whose text it stands, whether it stands in a result, and whether it may be a resource
pub record Mention : Type 0 where
  pub declares : Option ListedName
  pub known : Option (ℕ × List ℕ)
  pub refers : Reference
  pub owner : Option ℕ
  pub in_result : Bool
  pub may_be_resource : Bool

-- a name to which no rule applies
abbrev pub bare : Mention
bare = record {
  declares = None;
  known = None;
  refers = no_reference;
  owner = None;
  in_result = false;
  may_be_resource = false;
}

-- a name in a list of distinct names
abbrev pub listed_as : ℕ → NameTree → ListedName
listed_as list name =
    record { in_list = list; name = name; is_own = false; after_self = false }

abbrev pub declaring : ℕ → NameTree → Mention
declaring list name = record bare { declares = Some (listed_as list name) }

-- ---- the lists of distinct names have numbers: 0 is the file's; each other one is given by the
-- number of a name of the file

-- the items of the interface, the functions of the resource, the imports of the world whose name is
-- the n-th, and the labels of a type or parameters of which the n-th is the first
abbrev pub list_of : ℕ → ℕ
list_of n = 2 * n

-- the exports of the world whose name is the n-th
abbrev pub exports_of : ℕ → ℕ
exports_of n = 2 * n + 1
