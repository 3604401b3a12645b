-- Which definitions of a component are core functions, and the words of sorts (this project's own
-- choice, of Binary.md, "Alias Definitions" and "Canonical Definitions").
use Rattle.std.specs.Prelude.{ℕ, Bool, true, false, List, codes, filter, length}
use Rattle.cm_binary_model.specs.declared.aliases.Alias.{Alias}
use Rattle.cm_binary_model.specs.declared.aliases.Alias.TheVariants as alias
use Rattle.cm_binary_model.specs.declared.canons.Canon.{Canon}
use Rattle.cm_binary_model.specs.declared.canons.Canon.TheVariants as canon
use Rattle.cm_binary_model.specs.declared.instances.CoreSort.{CoreSort}
use Rattle.cm_binary_model.specs.declared.instances.CoreSort.TheVariants as core_sort
use Rattle.cm_binary_model.specs.declared.section.Section.{Section}
use Rattle.cm_binary_model.specs.declared.section.Section.TheVariants as section

-- the word of a sort
abbrev pub sort_word : CoreSort → List ℕ
sort_word core_sort.Func = codes "func"
sort_word core_sort.Table = codes "table"
sort_word core_sort.Memory = codes "memory"
sort_word core_sort.Global = codes "global"

-- whether an alias is of a core function
abbrev pub aliases_core_func : Alias → Bool
aliases_core_func (alias.CoreInstanceExport core_sort.Func instance name) = true
aliases_core_func _ = false

-- whether a canonical definition makes a core function
abbrev pub makes_core_func : Canon → Bool
makes_core_func (canon.Lift core_func options ty) = false
makes_core_func _ = true

-- how many core functions a section defines
abbrev pub core_funcs_in : Section → ℕ
core_funcs_in (section.Aliases aliases) = length (filter (λ a. aliases_core_func a) aliases.items)
core_funcs_in (section.Canons canons) = length (filter (λ c. makes_core_func c) canons.items)
core_funcs_in _ = 0
