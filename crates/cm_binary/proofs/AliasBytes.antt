-- Aliases: what is written spells them, and nothing shorter does.
use Rattle.std.proofs.Common.{◌≡◌, ℕ, ◌-◌, length, true, refl, arith}
use Rattle.std.specs.Str.{is_utf8}
use Rattle.std.proofs.lemmas.Bool.{and_parts}
use Rattle.std.proofs.lemmas.List.{length-append}
use Rattle.cm_leb.specs.NumbersWritten.{shortest_unsigned}
use Rattle.cm_binary_grammar.specs.Spelling.{blob_spelling}
use Rattle.cm_binary_grammar.proofs.LeastLaws.{Least, done_least, bind_least, code_least, refuse_least}
use Rattle.cm_binary_grammar.proofs.WrittenLaws.{Spelled, Writes, bind_written, last_written, code_written}
use Rattle.cm_binary_model.specs.declared.instances.InstanceExportSort.{InstanceExportSort}
use Rattle.cm_binary_model.specs.declared.instances.InstanceExportSort.TheVariants as instance_sorts
use Rattle.cm_types.specs.declared.def_types.OuterType.{OuterType}
use Rattle.cm_binary_model.specs.Trees as trees
use Rattle.cm_binary_model.specs.Trees.{AliasTree}
use Rattle.cm_binary_model.specs.Spelling.{core_sort_code, outer_type_spelling, alias_spelling}
use Rattle.cm_binary_model.specs.Parts.{is_index, holds_name, holds_outer_type, holds_alias}
use Rattle.cm_binary_forms.specs.declared.codes.AliasSort.{AliasSort}
use Rattle.cm_binary_forms.specs.declared.codes.AliasSort.TheVariants as alias_sorts
use Rattle.cm_binary_forms.specs.declared.codes.CoreAliasTarget.TheVariants as core_targets
use Rattle.cm_binary_forms.specs.declared.codes.FuncAliasTarget.TheVariants as func_targets
use Rattle.cm_binary_forms.specs.declared.codes.TypeAliasTarget.{TypeAliasTarget}
use Rattle.cm_binary_forms.specs.declared.codes.TypeAliasTarget.TheVariants as type_targets
use Rattle.cm_binary_forms.specs.Aliases.{outer_type, instance_export, type_alias_of, alias_of, alias}
use Rattle.cm_binary.proofs.Texts.{index_least, text_least, plain_name_least, index_written, text_writes, plain_name_writes}
use Rattle.cm_binary.proofs.InstanceBytes.{core_sort_read}

-- ---- nothing shorter

pub outer_type_least : Least outer_type (λ o. length (outer_type_spelling o))
unfolding outer_type
outer_type_least = bind_least _ _ index_least (λ count. bind_least _ _ index_least (λ i. done_least _ (omega (arith, length-append {A = ℕ}))))

instance_export_least : (sort : InstanceExportSort) → Least (instance_export sort) (λ a. length (alias_spelling a) - 2)
unfolding instance_export
instance_export_least sort = bind_least _ _ index_least (λ i. bind_least _ _ plain_name_least (λ name. done_least _ (omega (arith, length-append {A = ℕ}))))

type_alias_of_least : (t : TypeAliasTarget) → Least (type_alias_of t) (λ a. length (alias_spelling a) - 2)
unfolding type_alias_of
type_alias_of_least type_targets.InstanceExport = instance_export_least _
type_alias_of_least type_targets.OuterType = bind_least _ _ outer_type_least (λ outer. done_least _ (omega arith))

alias_of_least : (s : AliasSort) → Least (alias_of s) (λ a. length (alias_spelling a) - 1)
unfolding alias_of
alias_of_least alias_sorts.Core = bind_least _ _ (code_least _) (λ sort. bind_least _ _ (code_least _) (λ target. bind_least _ _ index_least (λ i. bind_least _ _ text_least (λ name. done_least _ (omega (arith, length-append {A = ℕ}))))))
alias_of_least alias_sorts.Func = bind_least _ _ (code_least _) (λ target. record { bound = λ x bytes s. omega (arith, (instance_export_least instance_sorts.Func).bound x bytes s) })
alias_of_least alias_sorts.Type = bind_least _ _ (code_least _) (λ target. record { bound = λ x bytes s. omega (arith, (type_alias_of_least target).bound x bytes s) })
alias_of_least alias_sorts.Instance = refuse_least _

pub alias_least : Least alias (λ a. length (alias_spelling a))
unfolding alias
alias_least = bind_least _ _ (code_least _) alias_of_least

-- ---- what is written

pub outer_type_written : (o : OuterType) → holds_outer_type o ≡ true → Spelled outer_type o (outer_type_spelling o)
unfolding outer_type
outer_type_written o h =
    let both = and_parts (is_index o.count) (is_index o.index) h in
    bind_written _ (index_written o.count both.0) (last_written (λ i. record { count = o.count; index = i }) (index_written o.index both.1)) refl

pub alias_writes : Writes alias holds_alias alias_spelling
unfolding alias alias_of type_alias_of instance_export
alias_writes (trees.instance_export instance_sorts.Func i name) h lt =
    let both = and_parts (is_index i) (holds_name name) h in
    let lengths = length-append (shortest_unsigned i) (blob_spelling name) in
    bind_written _ (code_written {k = alias_sorts.Func} 1 refl) (bind_written _ (code_written {k = func_targets.InstanceExport} 0 refl) (bind_written _ (index_written i both.0) (last_written (λ n. trees.instance_export instance_sorts.Func i n) (plain_name_writes name both.1 (omega (arith, lengths, lt)))) refl) refl) refl
alias_writes (trees.instance_export instance_sorts.Type i name) h lt =
    let both = and_parts (is_index i) (holds_name name) h in
    let lengths = length-append (shortest_unsigned i) (blob_spelling name) in
    bind_written _ (code_written {k = alias_sorts.Type} 3 refl) (bind_written _ (code_written {k = type_targets.InstanceExport} 0 refl) (bind_written _ (index_written i both.0) (last_written (λ n. trees.instance_export instance_sorts.Type i n) (plain_name_writes name both.1 (omega (arith, lengths, lt)))) refl) refl) refl
alias_writes (trees.core_instance_export sort i name) h lt =
    let both = and_parts (is_index i) (is_utf8 name) h in
    let lengths = length-append (shortest_unsigned i) (blob_spelling name) in
    bind_written _ (code_written {k = alias_sorts.Core} 0 refl) (bind_written _ (code_written (core_sort_code sort) (core_sort_read sort)) (bind_written _ (code_written {k = core_targets.CoreInstanceExport} 1 refl) (bind_written _ (index_written i both.0) (last_written (λ n. trees.core_instance_export sort i n) (text_writes name both.1 (omega (arith, lengths, lt)))) refl) refl) refl) refl
alias_writes (trees.outer_type outer) h lt =
    bind_written _ (code_written {k = alias_sorts.Type} 3 refl) (bind_written _ (code_written {k = type_targets.OuterType} 2 refl) (last_written trees.outer_type (outer_type_written outer h)) refl) refl
