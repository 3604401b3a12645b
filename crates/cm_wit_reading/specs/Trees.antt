-- Packages, as WIT texts write them: names stand as they are (WIT.md, "Packages and Worlds").
use Rattle.std.specs.Prelude.{ℕ, List, Option}
use Rattle.cm_wit_reading.specs.Types.{Ty}
use Rattle.cm_wit_reading.specs.Signatures.{Typed, Func, Path}

-- a used name, and the new name that it gets, if it gets one
pub record UsedName : Type 0 where
  pub name : List ℕ
  pub new_name : Option (List ℕ)

-- types of an interface that are used in another one (`use-item`)
pub record Use : Type 0 where
  pub path : Path
  pub names : List UsedName

-- a case of a variant: its name, and its type, if it has one
pub record Case : Type 0 where
  pub name : List ℕ
  pub ty : Option Ty

-- a function of a resource (`resource-method`); a constructor has parameters alone
pub data ResourceFunc : Type 0 where
  method : List ℕ → Func → ResourceFunc
  static : List ℕ → Func → ResourceFunc
  constructor : List Typed → ResourceFunc

-- what a type is defined to be (`typedef-item`)
pub data TypeDef : Type 0 where
  alias : Ty → TypeDef
  record_of : List Typed → TypeDef
  variant : List Case → TypeDef
  enum : List (List ℕ) → TypeDef
  flags : List (List ℕ) → TypeDef
  resource : List ResourceFunc → TypeDef

-- an item of an interface (`interface-items`): used types, a type or a function with its name
pub data InterfaceItem : Type 0 where
  uses : Use → InterfaceItem
  defines : List ℕ → TypeDef → InterfaceItem
  has_func : List ℕ → Func → InterfaceItem

-- an interface (`interface-item`)
pub record Interface : Type 0 where
  pub name : List ℕ
  pub items : List InterfaceItem

-- what a world imports or exports: an interface, or a function with its name
pub data WorldExtern : Type 0 where
  interface_at : Path → WorldExtern
  named_func : List ℕ → Func → WorldExtern

-- an item of a world (`world-items`)
pub data WorldItem : Type 0 where
  imports : WorldExtern → WorldItem
  exports : WorldExtern → WorldItem

-- a world (`world-item`)
pub record World : Type 0 where
  pub name : List ℕ
  pub items : List WorldItem

-- an item of a file: an interface or a world
pub data FileItem : Type 0 where
  interface : Interface → FileItem
  world : World → FileItem

-- a file (`wit-file`): the name of its package, and the package's interfaces and worlds
pub record File : Type 0 where
  pub namespace : List ℕ
  pub pkg : List ℕ
  pub version : Option (List ℕ)
  pub items : List FileItem
