-- Imports and exports: what is written spells them, and nothing shorter does.
use Rattle.std.proofs.Common.{◌≡◌, ◌-◌, ◌++◌, ◌∷◌, [], length, true, Ok, refl, arith}
use Rattle.std.proofs.lemmas.Bool.{and_parts}
use Rattle.std.proofs.lemmas.List.{length-append}
use Rattle.cm_leb.specs.NumbersWritten.{shortest_unsigned}
use Rattle.cm_binary_grammar.proofs.LeastLaws.{Least, done_least, bind_least, code_least}
use Rattle.cm_binary_grammar.proofs.WrittenLaws.{Spelled, Writes, bind_written, last_written, code_written}
use Rattle.cm_binary_model.specs.declared.externs.ExternDesc.{ExternDesc}
use Rattle.cm_binary_model.specs.declared.externs.ExternDesc.TheVariants as descs
use Rattle.cm_binary_model.specs.declared.externs.ExportSort.{ExportSort}
use Rattle.cm_binary_model.specs.declared.externs.ExportSort.TheVariants as export_sorts
use Rattle.cm_binary_model.specs.Spelling.{extern_name_spelling, desc_spelling, import_spelling, export_sort_code, export_spelling}
use Rattle.cm_binary_model.specs.Parts.{is_index, holds_desc, holds_name, holds_import, holds_export}
use Rattle.cm_binary_forms.specs.declared.codes.DescForm.{DescForm}
use Rattle.cm_binary_forms.specs.declared.codes.DescForm.TheVariants as desc_forms
use Rattle.cm_binary_forms.specs.declared.codes.NoDescription.TheVariants as descriptions
use Rattle.cm_binary_forms.specs.Codes.{export_sort}
use Rattle.cm_binary_forms.specs.Externs.{extern_desc_of, extern_desc, import_item, export_item}
use Rattle.cm_binary.proofs.Texts.{index_least, extern_name_least, index_written, extern_name_writes}

-- ---- nothing shorter

extern_desc_of_least : (f : DescForm) → Least (extern_desc_of f) (λ d. length (desc_spelling d) - 1)
unfolding extern_desc_of
extern_desc_of_least desc_forms.Func = bind_least _ _ index_least (λ ty. done_least _ (omega arith))
extern_desc_of_least desc_forms.Instance = bind_least _ _ index_least (λ ty. done_least _ (omega arith))

extern_desc_least : Least extern_desc (λ d. length (desc_spelling d))
unfolding extern_desc
extern_desc_least = bind_least _ _ (code_least _) extern_desc_of_least

pub import_least : Least import_item (λ i. length (import_spelling i))
unfolding import_item
import_least = bind_least _ _ extern_name_least (λ name. bind_least _ _ extern_desc_least (λ desc. done_least _ (omega (arith, length-append (extern_name_spelling name) (desc_spelling desc)))))

pub export_least : Least export_item (λ e. length (export_spelling e))
unfolding export_item
export_least = bind_least _ _ extern_name_least (λ name. bind_least _ _ (code_least _) (λ sort. bind_least _ _ index_least (λ i. bind_least _ _ (code_least _) (λ desc. done_least _ (omega (arith, length-append (extern_name_spelling name) (export_sort_code sort ∷ (shortest_unsigned i ++ (0 ∷ []))), length-append (shortest_unsigned i) (0 ∷ [])))))))

-- ---- what is written

extern_desc_written : (d : ExternDesc) → holds_desc d ≡ true → Spelled extern_desc d (desc_spelling d)
unfolding extern_desc extern_desc_of
extern_desc_written (descs.Func ty) h = bind_written _ (code_written {k = desc_forms.Func} 1 refl) (last_written descs.Func (index_written ty h)) refl
extern_desc_written (descs.Instance ty) h = bind_written _ (code_written {k = desc_forms.Instance} 5 refl) (last_written descs.Instance (index_written ty h)) refl

pub import_writes : Writes import_item holds_import import_spelling
unfolding import_item
import_writes x h lt =
    let both = and_parts (holds_name x.name) (holds_desc x.desc) h in
    let lengths = length-append (extern_name_spelling x.name) (desc_spelling x.desc) in
    bind_written _ (extern_name_writes x.name both.0 (omega (arith, lengths, lt))) (last_written (λ d. record { name = x.name; desc = d }) (extern_desc_written x.desc both.1)) refl

export_sort_read : (s : ExportSort) → export_sort (export_sort_code s) ≡ Ok s
export_sort_read export_sorts.Func = refl
export_sort_read export_sorts.Instance = refl

pub export_writes : Writes export_item holds_export export_spelling
unfolding export_item
export_writes x h lt =
    let both = and_parts (holds_name x.name) (is_index x.index) h in
    let lengths = length-append (extern_name_spelling x.name) (export_sort_code x.sort ∷ (shortest_unsigned x.index ++ (0 ∷ []))) in
    bind_written _ (extern_name_writes x.name both.0 (omega (arith, lengths, lt))) (bind_written _ (code_written (export_sort_code x.sort) (export_sort_read x.sort)) (bind_written _ (index_written x.index both.1) (last_written (λ d. record { name = x.name; sort = x.sort; index = x.index }) (code_written {k = descriptions.Absent} 0 refl)) refl) refl) refl
