-- Aliases (Binary.md, "Alias Definitions").
use Rattle.cm_binary_grammar.specs.Grammar.{done, ◌>>=◌, code, refuse}
use Rattle.cm_binary_model.specs.declared.instances.InstanceExportSort.{InstanceExportSort}
use Rattle.cm_binary_model.specs.declared.instances.InstanceExportSort.TheVariants as instance_sorts
use Rattle.cm_types.specs.declared.def_types.OuterType.{OuterType}
use Rattle.cm_binary_model.specs.Trees as trees
use Rattle.cm_binary_model.specs.Trees.{AliasTree}
use Rattle.cm_binary_forms.specs.declared.codes.AliasSort.{AliasSort}
use Rattle.cm_binary_forms.specs.declared.codes.AliasSort.TheVariants as alias_sorts
use Rattle.cm_binary_forms.specs.declared.codes.TypeAliasTarget.{TypeAliasTarget}
use Rattle.cm_binary_forms.specs.declared.codes.TypeAliasTarget.TheVariants as type_targets
use Rattle.cm_binary_forms.specs.Codes.{core_sort, alias_sort, core_alias_target}
use Rattle.cm_binary_forms.specs.Codes.{func_alias_target, type_alias_target, no_alias_target}
use Rattle.cm_binary_forms.specs.Texts.{Production, index, text, plain_name}

-- A type of a component around: how far outwards, and the index there (`aliastarget`).
unfoldable pub outer_type : Production OuterType
outer_type = do
  count ← index
  position ← index
  done (record { count = count; index = position })

-- What an instance exports: the instance, the name (`aliastarget`).
unfoldable pub instance_export : InstanceExportSort → Production AliasTree
instance_export sort = do
  instance ← index
  name ← plain_name
  done (trees.instance_export sort instance name)

-- An alias of a type behind its target.
unfoldable pub type_alias_of : TypeAliasTarget → Production AliasTree
type_alias_of type_targets.InstanceExport = instance_export instance_sorts.Type
type_alias_of type_targets.OuterType = do
  outer ← outer_type
  done (trees.outer_type outer)

-- An alias behind its sort.
unfoldable pub alias_of : AliasSort → Production AliasTree
alias_of alias_sorts.Core = do
  sort ← code core_sort
  target ← code core_alias_target
  instance ← index
  name ← text
  done (trees.core_instance_export sort instance name)
alias_of alias_sorts.Func = do
  target ← code func_alias_target
  instance_export instance_sorts.Func
alias_of alias_sorts.Type = do
  target ← code type_alias_target
  type_alias_of target
alias_of alias_sorts.Instance = refuse no_alias_target

-- An alias (`alias`).
unfoldable pub alias : Production AliasTree
alias = do
  sort ← code alias_sort
  alias_of sort
