-- What the first tokens of items say (WIT.md, "Packages and Worlds").
use Rattle.std.specs.Prelude.{ℕ, List, Bool, Option, Some, None, Result, Ok, Err, codes}
use Rattle.std.specs.Prelude.{if◌then◌else◌}
use Rattle.std.specs.Option.{option_map}
use Rattle.std.specs.Str.{bytes_eq}
use Rattle.cm_wit_tokens.specs.declared.keyword.Keyword.{Keyword}
use Rattle.cm_wit_tokens.specs.declared.keyword.Keyword.TheVariants as word
use Rattle.cm_wit_tokens.specs.declared.token.Form.{Form}
use Rattle.cm_wit_tokens.specs.declared.token.Form.TheVariants as form
use Rattle.cm_wit_tokens.specs.declared.fault.WitReason.{WitReason}
use Rattle.cm_wit_tokens.specs.Parts.{other_fault}
use Rattle.cm_wit_projects_reading.specs.declared.heads.GateHead.{GateHead}
use Rattle.cm_wit_projects_reading.specs.declared.heads.GateHead.TheVariants as gate_is
use Rattle.cm_wit_projects_reading.specs.declared.heads.TypeHead.{TypeHead}
use Rattle.cm_wit_projects_reading.specs.declared.heads.TypeHead.TheVariants as type_is
use Rattle.cm_wit_projects_reading.specs.declared.heads.ItemHead.{ItemHead}
use Rattle.cm_wit_projects_reading.specs.declared.heads.ItemHead.TheVariants as item_is
use Rattle.cm_wit_projects_reading.specs.declared.heads.MethodHead.{MethodHead}
use Rattle.cm_wit_projects_reading.specs.declared.heads.MethodHead.TheVariants as method_is
use Rattle.cm_wit_projects_reading.specs.declared.heads.WorldHead.{WorldHead}
use Rattle.cm_wit_projects_reading.specs.declared.heads.WorldHead.TheVariants as world_is
use Rattle.cm_wit_projects_reading.specs.declared.heads.PackageHead.{PackageHead}
use Rattle.cm_wit_projects_reading.specs.declared.heads.PackageHead.TheVariants as package_is
use Rattle.cm_wit_projects_reading.specs.declared.heads.FileHead.{FileHead}
use Rattle.cm_wit_projects_reading.specs.declared.heads.FileHead.TheVariants as file_is

-- what a token stands for, if it stands for anything
abbrev pub told : {A : Type 0} → Form → Option A → Result A WitReason
told f (Some x) = Ok x
told f None = Err (other_fault f)

-- ---- gates

-- the word behind the `@` of a gate
abbrev pub gate_word : List ℕ → Option GateHead
gate_word text =
    if bytes_eq text (codes "since") then Some gate_is.Since
    else if bytes_eq text (codes "unstable") then Some gate_is.Unstable
    else if bytes_eq text (codes "deprecated") then Some gate_is.Deprecated
    else None

abbrev pub gate_head : Form → Result GateHead WitReason
gate_head (form.Identifier text) = told (form.Identifier text) (gate_word text)
gate_head f = Err (other_fault f)

-- the name of a gate's field
abbrev pub field : List ℕ → Form → Result (Unit {0}) WitReason
field name (form.Identifier text) =
    if bytes_eq text name then Ok tt else Err (other_fault (form.Identifier text))
field name f = Err (other_fault f)

-- ---- items

-- the keyword before a type's name
abbrev pub type_head : Keyword → Option TypeHead
type_head word.Type = Some type_is.Type
type_head word.Record = Some type_is.Record
type_head word.Variant = Some type_is.Variant
type_head word.Enum = Some type_is.Enum
type_head word.Flags = Some type_is.Flags
type_head word.Resource = Some type_is.Resource
type_head _ = None

-- an item of an interface: `use`, a type, or a function with its name
abbrev pub item_head : Form → Result ItemHead WitReason
item_head (form.Identifier text) = Ok (item_is.Func text)
item_head (form.Keyword word.Use) = Ok item_is.Use
item_head (form.Keyword k) = told (form.Keyword k) (option_map (λ h. item_is.Type h) (type_head k))
item_head f = Err (other_fault f)

-- a function of a resource: its constructor, or one with a name
abbrev pub method_head : Form → Result MethodHead WitReason
method_head (form.Identifier text) = Ok (method_is.Named text)
method_head (form.Keyword word.Constructor) = Ok method_is.Constructor
method_head f = Err (other_fault f)

-- an item of a world
abbrev pub world_word : Keyword → Option WorldHead
world_word word.Import = Some world_is.Import
world_word word.Export = Some world_is.Export
world_word word.Use = Some world_is.Use
world_word word.Include = Some world_is.Include
world_word k = option_map (λ h. world_is.Type h) (type_head k)

abbrev pub world_head : Form → Result WorldHead WitReason
world_head (form.Keyword k) = told (form.Keyword k) (world_word k)
world_head f = Err (other_fault f)

-- an item of a package; gates stand before interfaces and worlds alone
abbrev pub package_word : Bool → Keyword → Option PackageHead
package_word gated word.Interface = Some package_is.Interface
package_word gated word.World = Some package_is.World
package_word gated word.Use = if gated then None else Some package_is.Use
package_word gated _ = None

abbrev pub package_head : Bool → Form → Result PackageHead WitReason
package_head gated (form.Keyword k) = told (form.Keyword k) (package_word gated k)
package_head gated f = Err (other_fault f)

-- an item of a file: one of its package, or a package in braces
abbrev pub file_word : Bool → Keyword → Option FileHead
file_word gated word.Package = if gated then None else Some file_is.Package
file_word gated k = option_map (λ h. file_is.Item h) (package_word gated k)

abbrev pub file_head : Bool → Form → Result FileHead WitReason
file_head gated (form.Keyword k) = told (form.Keyword k) (file_word gated k)
file_head gated f = Err (other_fault f)
