-- Files of projects, as WIT texts write them: names stand as they are (WIT.md, "Packages and
-- Worlds").
use Rattle.std.specs.Prelude.{ℕ, List, Option}
use Rattle.cm_wit_reading.specs.Signatures.{Func, Path}
use Rattle.cm_wit_reading.specs.Trees.{ResourceFunc, TypeDef, Use}

-- a gate, with the version or the feature that it names
pub data Gate : Type 0 where
  since : List ℕ → Gate
  unstable : List ℕ → Gate
  deprecated : List ℕ → Gate

-- a thing, and how many bytes of the text are left from its first token on
abbrev pub Placed : Type 0 → Type 0
Placed A = ℕ × A

-- a thing behind its gates
pub record Gated (A : Type 0) : Type 0 where
  pub gates : List (Placed Gate)
  pub item : Placed A

-- a thing that is read, or how many bytes of the text are left from the first word on that belongs
-- to a form that is left out
pub data Kept (A : Type 0) : Type 0 where
  kept : A → Kept A
  left_out : ℕ → Kept A

-- a function of a resource; of one that is left out the name, but a constructor has none
pub data ResourceItem : Type 0 where
  has : ResourceFunc → ResourceItem
  lacks : Option (List ℕ) → ℕ → ResourceItem

-- what a type is defined to be: a resource, or another type
pub data TypeItem : Type 0 where
  def : Kept TypeDef → TypeItem
  resource : List (Gated ResourceItem) → TypeItem

-- an item of an interface: used types, a type or a function with its name
pub data InterfaceItem : Type 0 where
  uses : Use → InterfaceItem
  defines : List ℕ → TypeItem → InterfaceItem
  has_func : List ℕ → Kept Func → InterfaceItem

pub record Interface : Type 0 where
  pub name : List ℕ
  pub items : List (Gated InterfaceItem)

-- what a world imports or exports: an interface that is declared elsewhere, a function or an
-- interface in place with its name
pub data WorldExtern : Type 0 where
  interface_at : Path → WorldExtern
  named_func : List ℕ → Kept Func → WorldExtern
  in_place : List ℕ → List (Gated InterfaceItem) → WorldExtern

-- a name of an included world, and the name that it gets
pub record Renamed : Type 0 where
  pub name : List ℕ
  pub new_name : List ℕ

-- a world that is included (`include-item`)
pub record Include : Type 0 where
  pub path : Path
  pub renamed : List Renamed

-- an item of a world (`world-items`)
pub data WorldItem : Type 0 where
  imports : WorldExtern → WorldItem
  exports : WorldExtern → WorldItem
  uses_types : Use → WorldItem
  defines_type : List ℕ → TypeItem → WorldItem
  includes : Include → WorldItem

pub record World : Type 0 where
  pub name : List ℕ
  pub items : List (Gated WorldItem)

-- the name of a package
pub record PackageName : Type 0 where
  pub namespace : List ℕ
  pub name : List ℕ
  pub version : Option (List ℕ)

-- a name for an interface or a world, in one file or one package in braces
pub record TopUse : Type 0 where
  pub path : Path
  pub new_name : Option (List ℕ)

-- an item of a package (`package-items`)
pub data PackageItem : Type 0 where
  top_use : TopUse → PackageItem
  interface : Interface → PackageItem
  world : World → PackageItem

-- a package in braces
pub record NestedPackage : Type 0 where
  pub name : PackageName
  pub items : List (Gated PackageItem)

-- an item of a file
pub data FileItem : Type 0 where
  item : PackageItem → FileItem
  nested : NestedPackage → FileItem

-- the line of a file's package, or a package in braces
pub data First : Type 0 where
  line : PackageName → First
  body : NestedPackage → First

-- a file (`wit-file`): the name of its package, if it has a line for it, and its items
pub record File : Type 0 where
  pub pkg : Option PackageName
  pub items : List (Gated FileItem)
