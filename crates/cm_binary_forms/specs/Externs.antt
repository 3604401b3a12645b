-- Imports and exports (Binary.md, "Import and Export Definitions").
use Rattle.cm_binary_grammar.specs.Grammar.{done, ◌>>=◌, code}
use Rattle.cm_binary_model.specs.declared.externs.ExternDesc.{ExternDesc}
use Rattle.cm_binary_model.specs.declared.externs.ExternDesc.TheVariants as descs
use Rattle.cm_binary_model.specs.declared.externs.Import.{Import}
use Rattle.cm_binary_model.specs.declared.externs.Export.{Export}
use Rattle.cm_binary_forms.specs.declared.codes.DescForm.{DescForm}
use Rattle.cm_binary_forms.specs.declared.codes.DescForm.TheVariants as desc_forms
use Rattle.cm_binary_forms.specs.Codes.{desc_form, export_sort, export_desc}
use Rattle.cm_binary_forms.specs.Texts.{Production, index, extern_name}

-- What is imported, behind its form: the index of its type.
unfoldable pub extern_desc_of : DescForm → Production ExternDesc
extern_desc_of desc_forms.Func = do
  ty ← index
  done (descs.Func ty)
extern_desc_of desc_forms.Instance = do
  ty ← index
  done (descs.Instance ty)

-- What is imported (`externdesc`).
unfoldable pub extern_desc : Production ExternDesc
extern_desc = do
  form ← code desc_form
  extern_desc_of form

-- An import: its name, what it is (`import`).
unfoldable pub import_item : Production Import
import_item = do
  name ← extern_name
  desc ← extern_desc
  done (record { name = name; desc = desc })

-- An export: its name, the sort, the index, whether a description follows (`export`).
unfoldable pub export_item : Production Export
export_item = do
  name ← extern_name
  sort ← code export_sort
  position ← index
  desc ← code export_desc
  done (record { name = name; sort = sort; index = position })
