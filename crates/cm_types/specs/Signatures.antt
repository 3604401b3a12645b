-- What a component imports and exports, without where it lies in memory (Binary.md, "Import and
-- Export Definitions").
use Rattle.std.specs.Prelude.{ℕ, List}
use Rattle.cm_types.specs.Types.{Ty, FuncTy}
use Rattle.cm_types.specs.declared.resource.ResourceId.{ResourceId}

-- what an item of an instance is: a function, a type equal to another one, a resource equal to
-- another one, or a fresh resource
pub data ItemTy : Type 0 where
  func_item : FuncTy → ItemTy
  equal_type : Ty → ItemTy
  equal_resource : ResourceId → ItemTy
  fresh_resource : ResourceId → ItemTy

-- an item with its name
pub record NamedItem : Type 0 where
  pub name : List ℕ
  pub desc : ItemTy

-- what an import or an export is: a function, or an instance with its items
pub data ExternTy : Type 0 where
  func : FuncTy → ExternTy
  instance : List NamedItem → ExternTy

-- an import or an export with its name
pub record NamedExtern : Type 0 where
  pub name : List ℕ
  pub desc : ExternTy

-- imports and exports, in order
pub record SignatureTy : Type 0 where
  pub imports : List NamedExtern
  pub exports : List NamedExtern
