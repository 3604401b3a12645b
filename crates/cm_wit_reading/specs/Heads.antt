-- What the first tokens of items say (WIT.md, "Packages and Worlds"). Where an item begins `@` is
-- not read, and where one of a file begins `use` is not either (this project's own choice).
use Rattle.std.specs.Prelude.{Option, Some, None, Result, Ok, Err}
use Rattle.cm_wit_tokens.specs.declared.keyword.Keyword.{Keyword}
use Rattle.cm_wit_tokens.specs.declared.keyword.Keyword.TheVariants as word
use Rattle.cm_wit_tokens.specs.declared.token.Form.{Form}
use Rattle.cm_wit_tokens.specs.declared.token.Form.TheVariants as form
use Rattle.cm_wit_tokens.specs.declared.fault.WitReason.{WitReason}
use Rattle.cm_wit_tokens.specs.Parts.{no_item, no_file_item}
use Rattle.cm_wit_reading.specs.declared.heads.TypeHead.{TypeHead}
use Rattle.cm_wit_reading.specs.declared.heads.TypeHead.TheVariants as type_is
use Rattle.cm_wit_reading.specs.declared.heads.ItemHead.{ItemHead}
use Rattle.cm_wit_reading.specs.declared.heads.ItemHead.TheVariants as item_is
use Rattle.cm_wit_reading.specs.declared.heads.MethodHead.{MethodHead}
use Rattle.cm_wit_reading.specs.declared.heads.MethodHead.TheVariants as method_is
use Rattle.cm_wit_reading.specs.declared.heads.WorldHead.{WorldHead}
use Rattle.cm_wit_reading.specs.declared.heads.WorldHead.TheVariants as world_is
use Rattle.cm_wit_reading.specs.declared.heads.FileHead.{FileHead}
use Rattle.cm_wit_reading.specs.declared.heads.FileHead.TheVariants as file_is

-- the keyword before a type's name
abbrev pub type_head : Keyword → Option TypeHead
type_head word.Type = Some type_is.Type
type_head word.Record = Some type_is.Record
type_head word.Variant = Some type_is.Variant
type_head word.Enum = Some type_is.Enum
type_head word.Flags = Some type_is.Flags
type_head word.Resource = Some type_is.Resource
type_head _ = None

-- an item of an interface: `use`, a type, or a function with its name
abbrev pub or_no_item : Option TypeHead → Form → Result ItemHead WitReason
or_no_item None f = Err (no_item f)
or_no_item (Some h) f = Ok (item_is.Type h)

abbrev pub item_head : Form → Result ItemHead WitReason
item_head (form.Identifier text) = Ok (item_is.Func text)
item_head (form.Keyword word.Use) = Ok item_is.Use
item_head (form.Keyword k) = or_no_item (type_head k) (form.Keyword k)
item_head f = Err (no_item f)

-- a function of a resource: its constructor, or one with a name
abbrev pub method_head : Form → Result MethodHead WitReason
method_head (form.Identifier text) = Ok (method_is.Named text)
method_head (form.Keyword word.Constructor) = Ok method_is.Constructor
method_head f = Err (no_item f)

-- an item of a world
abbrev pub world_head : Form → Result WorldHead WitReason
world_head (form.Keyword word.Import) = Ok world_is.Import
world_head (form.Keyword word.Export) = Ok world_is.Export
world_head f = Err (no_item f)

-- an item of a file
abbrev pub file_head : Form → Result FileHead WitReason
file_head (form.Keyword word.Interface) = Ok file_is.Interface
file_head (form.Keyword word.World) = Ok file_is.World
file_head f = Err (no_file_item f)

-- the word `package`
abbrev pub package_head : Form → Result (Unit {0}) WitReason
package_head (form.Keyword word.Package) = Ok tt
package_head f = Err (no_file_item f)
