-- Files of WIT whose types and definitions hold something (WIT.md, "Packages and Worlds").
use Rattle.std.specs.Prelude.{List}
use Rattle.std.specs.List.{AllByRecursion}
use Rattle.std.specs.Option.{IfSome}
use Rattle.cm_wit_reading.specs.Signatures.{Func, Typed}
use Rattle.cm_wit_reading.specs.Trees.{TypeDef, resource}
use Rattle.cm_wit_reading.specs.Trees.{ResourceFunc, method, static, constructor, InterfaceItem}
use Rattle.cm_wit_reading.specs.Trees.{uses}
use Rattle.cm_wit_reading.specs.Trees.{defines, has_func, WorldExtern, interface_at, named_func}
use Rattle.cm_wit_reading.specs.Trees.{WorldItem, imports, exports, FileItem, interface, world}
use Rattle.cm_wit_reading.specs.Trees.{File}
use Rattle.cm_wit_signature.specs.Written.{IsWritten, IsWrittenDef}

-- The type of each parameter is written so.
abbrev pub AreWrittenParams : List Typed → Type 0
AreWrittenParams ps = AllByRecursion (λ p. IsWritten p.1) ps

-- The type of each parameter of a function, and that of its result, are written so.
abbrev pub IsWrittenFunc : Func → Type 0
IsWrittenFunc f = AreWrittenParams f.params × IfSome f.result IsWritten

-- Each type in a function of a resource is written so.
abbrev pub IsWrittenResourceFunc : ResourceFunc → Type 0
IsWrittenResourceFunc (method name f) = IsWrittenFunc f
IsWrittenResourceFunc (static name f) = IsWrittenFunc f
IsWrittenResourceFunc (constructor ps) = AreWrittenParams ps

-- so is each type in the functions of what is defined, where that is a resource
abbrev pub AreWrittenFuncsOf : TypeDef → Type 0
AreWrittenFuncsOf (resource fs) = AllByRecursion IsWrittenResourceFunc fs
AreWrittenFuncsOf _ = Unit {0}

-- An item of an interface is written so: what it defines, with its functions, or the function.
abbrev pub IsWrittenItem : InterfaceItem → Type 0
IsWrittenItem (uses u) = Unit {0}
IsWrittenItem (defines name t) = IsWrittenDef t × AreWrittenFuncsOf t
IsWrittenItem (has_func name f) = IsWrittenFunc f

-- So is what a world imports or exports.
abbrev pub IsWrittenExtern : WorldExtern → Type 0
IsWrittenExtern (interface_at path) = Unit {0}
IsWrittenExtern (named_func name f) = IsWrittenFunc f

abbrev pub IsWrittenWorldItem : WorldItem → Type 0
IsWrittenWorldItem (imports e) = IsWrittenExtern e
IsWrittenWorldItem (exports e) = IsWrittenExtern e

-- So is each item of an interface or a world.
abbrev pub IsWrittenFileItem : FileItem → Type 0
IsWrittenFileItem (interface i) = AllByRecursion IsWrittenItem i.items
IsWrittenFileItem (world w) = AllByRecursion IsWrittenWorldItem w.items

-- Each item of a file is written so.
abbrev pub IsWrittenFile : File → Type 0
IsWrittenFile f = AllByRecursion IsWrittenFileItem f.items
