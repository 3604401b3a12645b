-- Core instances and instances: what is written spells them, and nothing shorter does.
use Rattle.std.proofs.Common.{◌≡◌, ℕ, ◌-◌, ◌∷◌, length, Ok, refl, arith}
use Rattle.std.specs.Str.{is_utf8}
use Rattle.std.specs.List.{list_all}
use Rattle.std.proofs.lemmas.Bool.{and_parts}
use Rattle.std.proofs.lemmas.List.{length-append}
use Rattle.cm_leb.specs.NumbersWritten.{shortest_unsigned}
use Rattle.cm_binary_grammar.specs.Spelling.{blob_spelling, vec_spelling}
use Rattle.cm_binary_grammar.proofs.LeastLaws.{Least, done_least, bind_least, code_least, fixed_least, vec_least}
use Rattle.cm_binary_grammar.proofs.WrittenLaws.{Writes, bind_written, last_written, code_written, fixed_written, vec_written}
use Rattle.cm_binary_model.specs.declared.instances.CoreSort.{CoreSort}
use Rattle.cm_binary_model.specs.declared.instances.CoreSort.TheVariants as core_sorts
use Rattle.cm_binary_model.specs.declared.instances.InstanceExportSort.{InstanceExportSort}
use Rattle.cm_binary_model.specs.declared.instances.InstanceExportSort.TheVariants as instance_sorts
use Rattle.cm_binary_model.specs.Trees as trees
use Rattle.cm_binary_model.specs.Trees.{ArgTree, CoreExportTree, CoreInstanceTree}
use Rattle.cm_binary_model.specs.Spelling.{extern_name_spelling, core_arg_spelling, core_sort_code, core_export_spelling, core_instance_spelling, instance_sort_code, inline_export_spelling, instance_spelling}
use Rattle.cm_binary_model.specs.Parts.{is_index, holds_name, holds_arg, holds_core_export, holds_core_instance, holds_inline_export, holds_instance}
use Rattle.cm_binary_model.proofs.Nonempty.{core_arg_some, core_export_some, inline_export_some}
use Rattle.cm_binary_forms.specs.declared.fault.DecodeReason.TheVariants.{BadNumber}
use Rattle.cm_binary_forms.specs.declared.codes.CoreInstanceForm.{CoreInstanceForm}
use Rattle.cm_binary_forms.specs.declared.codes.CoreInstanceForm.TheVariants as forms
use Rattle.cm_binary_forms.specs.Codes.{core_sort, instance_export_sort}
use Rattle.cm_binary_forms.specs.Instances.{core_arg, core_export, core_instance_of, core_instance, inline_export, instance_item}
use Rattle.cm_binary.proofs.Texts.{index_least, text_least, extern_name_least, index_written, text_writes, extern_name_writes}

pub core_sort_read : (s : CoreSort) → core_sort (core_sort_code s) ≡ Ok s
core_sort_read core_sorts.Func = refl
core_sort_read core_sorts.Table = refl
core_sort_read core_sorts.Memory = refl
core_sort_read core_sorts.Global = refl

pub instance_sort_read : (s : InstanceExportSort) → instance_export_sort (instance_sort_code s) ≡ Ok s
instance_sort_read instance_sorts.Func = refl
instance_sort_read instance_sorts.Type = refl

-- ---- nothing shorter

core_arg_least : Least core_arg (λ a. length (core_arg_spelling a))
unfolding core_arg
core_arg_least = bind_least _ _ text_least (λ name. bind_least _ _ (fixed_least _ _) (λ sort. bind_least _ _ index_least (λ i. done_least _ (omega (arith, length-append {A = ℕ})))))

core_export_least : Least core_export (λ e. length (core_export_spelling e))
unfolding core_export
core_export_least = bind_least _ _ text_least (λ name. bind_least _ _ (code_least _) (λ sort. bind_least _ _ index_least (λ i. done_least _ (omega (arith, length-append {A = ℕ})))))

core_instance_of_least : (f : CoreInstanceForm) → Least (core_instance_of f) (λ i. length (core_instance_spelling i) - 1)
unfolding core_instance_of
core_instance_of_least forms.Instantiate = bind_least _ _ index_least (λ m. bind_least _ _ (vec_least _ _ _ core_arg_least) (λ args. done_least _ (omega (arith, length-append {A = ℕ}))))
core_instance_of_least forms.Exports = bind_least _ _ (vec_least _ _ _ core_export_least) (λ exports. done_least _ (omega arith))

pub core_instance_least : Least core_instance (λ i. length (core_instance_spelling i))
unfolding core_instance
core_instance_least = bind_least _ _ (code_least _) core_instance_of_least

inline_export_least : Least inline_export (λ e. length (inline_export_spelling e))
unfolding inline_export
inline_export_least = bind_least _ _ extern_name_least (λ name. bind_least _ _ (code_least _) (λ sort. bind_least _ _ index_least (λ i. done_least _ (omega (arith, length-append (extern_name_spelling name) (instance_sort_code sort ∷ shortest_unsigned i))))))

pub instance_least : Least instance_item (λ i. length (instance_spelling i))
unfolding instance_item
instance_least = bind_least _ _ (code_least _) (λ form. record { bound = λ x bytes s. omega (arith, (vec_least BadNumber inline_export inline_export_spelling inline_export_least).bound x bytes s) })

-- ---- what is written

core_arg_writes : Writes core_arg holds_arg core_arg_spelling
unfolding core_arg
core_arg_writes x h lt =
    let both = and_parts (is_utf8 x.name) (is_index x.instance) h in
    let lengths = length-append (blob_spelling x.name) (18 ∷ shortest_unsigned x.instance) in
    bind_written _ (text_writes x.name both.0 (omega (arith, lengths, lt))) (bind_written _ fixed_written (last_written (λ i. record { name = x.name; instance = i }) (index_written x.instance both.1)) refl) refl

core_export_writes : Writes core_export holds_core_export core_export_spelling
unfolding core_export
core_export_writes x h lt =
    let both = and_parts (is_utf8 x.name) (is_index x.index) h in
    let lengths = length-append (blob_spelling x.name) (core_sort_code x.sort ∷ shortest_unsigned x.index) in
    bind_written _ (text_writes x.name both.0 (omega (arith, lengths, lt))) (bind_written _ (code_written (core_sort_code x.sort) (core_sort_read x.sort)) (last_written (λ i. record { name = x.name; sort = x.sort; index = i }) (index_written x.index both.1)) refl) refl

pub core_instance_writes : Writes core_instance holds_core_instance core_instance_spelling
unfolding core_instance core_instance_of
core_instance_writes (trees.instantiate m args) h lt =
    let both = and_parts (is_index m) (list_all holds_arg args) h in
    let lengths = length-append (shortest_unsigned m) (vec_spelling core_arg_spelling args) in
    bind_written _ (code_written {k = forms.Instantiate} 0 refl) (bind_written _ (index_written m both.0) (last_written (λ a. trees.instantiate m a) (vec_written BadNumber core_arg holds_arg core_arg_spelling core_arg_some core_arg_writes args both.1 (omega (arith, lengths, lt)))) refl) refl
core_instance_writes (trees.core_exports exports) h lt =
    bind_written _ (code_written {k = forms.Exports} 1 refl) (last_written trees.core_exports (vec_written BadNumber core_export holds_core_export core_export_spelling core_export_some core_export_writes exports h (omega (arith, lt)))) refl

inline_export_writes : Writes inline_export holds_inline_export inline_export_spelling
unfolding inline_export
inline_export_writes x h lt =
    let both = and_parts (holds_name x.name) (is_index x.index) h in
    let lengths = length-append (extern_name_spelling x.name) (instance_sort_code x.sort ∷ shortest_unsigned x.index) in
    bind_written _ (extern_name_writes x.name both.0 (omega (arith, lengths, lt))) (bind_written _ (code_written (instance_sort_code x.sort) (instance_sort_read x.sort)) (last_written (λ i. record { name = x.name; sort = x.sort; index = i }) (index_written x.index both.1)) refl) refl

pub instance_writes : Writes instance_item holds_instance instance_spelling
unfolding instance_item
instance_writes exports h lt = bind_written _ (code_written 1 refl) (vec_written BadNumber inline_export holds_inline_export inline_export_spelling inline_export_some inline_export_writes exports h (omega (arith, lt))) refl
