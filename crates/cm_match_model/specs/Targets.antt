-- What an imported function comes to in the end, where each component that exports an import again
-- is passed through (how components are linked is this project's own choice).
use Rattle.std.specs.Prelude.{◌≡◌, ℕ, zero, suc, List, Option, Some, None, slice_get}
use Rattle.std.specs.Option.{option_map, option_and_then}
use Rattle.cm_types.specs.Types.{FuncTy}
use Rattle.cm_binary_model.specs.declared.canons.CanonOption.{CanonOption}
use Rattle.cm_validate_model.specs.Definitions.{ExportDef, exported_func, exported_instance}
use Rattle.cm_validate_model.specs.Definitions.{FuncDef}
use Rattle.cm_validate_model.specs.Definitions.{lifted, imported}
use Rattle.cm_validate_model.specs.Spaces.{Spaces, func_of_member, member_named}
use Rattle.cm_match_model.specs.Origins.{Links, item_name}
use Rattle.cm_match_model.specs.declared.component.Link.{Link}
use Rattle.cm_match_model.specs.Imports.{export_in}

-- a lifted function: its component, the core function that is lifted, the type and the options
pub record Target : Type 0 where
  pub component : ℕ
  pub core_func : ℕ
  pub ty : FuncTy
  pub options : List CanonOption

-- a function of a component
pub record FuncAt : Type 0 where
  pub component : ℕ
  pub func : FuncDef

-- the function that an export is, and that it has under a name
abbrev pub exported_alone : ExportDef → Option FuncDef
exported_alone (exported_func f) = Some f
exported_alone (exported_instance members) = None

abbrev pub exported_under : List ℕ → ExportDef → Option FuncDef
exported_under name (exported_func f) = None
exported_under name (exported_instance members) =
    option_and_then func_of_member (member_named members name)

-- the one that an import is served by, and, of an import of an instance, its item of a number
abbrev pub func_for : Spaces → ℕ → Option ℕ → ExportDef → Option FuncDef
func_for s import None e = exported_alone e
func_for s import (Some item) e =
    option_and_then (λ name. exported_under name e) (item_name s import item)

abbrev pub linked_func : List Spaces → Spaces → ℕ → Option ℕ → Link → Option FuncAt
linked_func set s import item l =
    option_map (λ f. record { component = l.component; func = f })
    (option_and_then (func_for s import item) (export_in set l.component l.export))

-- the function of another component by which an import, or an item of one, is served
abbrev pub serving_func : List Spaces → Links → ℕ → ℕ → Option ℕ → Option FuncAt
serving_func set links component import item =
    option_and_then (λ s. option_and_then (linked_func set s import item) (links component import))
    (slice_get set component)

-- targets of imports, and of their items, by component, import and item
abbrev pub Targets : Type 0
Targets = ℕ → ℕ → Option ℕ → Option Target

-- the target of a function: a lift is its own target, and an import has the target of its provider
abbrev pub target_by : Targets → ℕ → FuncDef → Option Target
target_by targets component (lifted f ty os) =
    Some (record { component = component; core_func = f; ty = ty; options = os })
target_by targets component (imported import item ty) = targets component import item

abbrev pub target_of : Targets → FuncAt → Option Target
target_of targets f = target_by targets f.component f.func

-- The targets of a set: that of each import, or item of one, is the target of what serves it.
abbrev pub AreTargets : List Spaces → Links → Targets → Type 0
AreTargets set links targets =
    (component import : ℕ) (item : Option ℕ)
    → targets component import item
    ≡ option_and_then (target_of targets) (serving_func set links component import item)

-- the targets of the imports of the components before this one
abbrev pub target_within : ℕ → List Spaces → Links → Targets
target_within zero set links component import item = None
target_within (suc count) set links component import item =
    option_and_then (target_of (target_within count set links))
    (serving_func set links component import item)

-- the targets of the imports of each component
abbrev pub targets_of : List Spaces → Links → Targets
targets_of set links component import item =
    target_within (suc component) set links component import item
