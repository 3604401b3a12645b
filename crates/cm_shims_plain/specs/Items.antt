-- Instances, imports and exports of files that may have shims, and of shims (Binary.md, "Instance
-- Definitions", "Import and Export Definitions").
use Rattle.std.specs.Prelude.{ℕ, [], ◌∷◌, Option, Some, None}
use Rattle.cm_binary_grammar.specs.Grammar.{done, ◌>>=◌, code, fixed}
use Rattle.cm_binary_model.specs.declared.instances.InstanceExportSort.{InstanceExportSort}
use Rattle.cm_binary_model.specs.declared.instances.InstanceExportSort.TheVariants as sorts
use Rattle.cm_binary_forms.specs.declared.fault.DecodeReason.TheVariants.{UnknownCode}
use Rattle.cm_binary_forms.specs.declared.codes.OptionalForm.{OptionalForm}
use Rattle.cm_binary_forms.specs.declared.codes.OptionalForm.TheVariants as optional_forms
use Rattle.cm_binary_forms.specs.Codes.{instance_export_sort, optional_form}
use Rattle.cm_binary_forms.specs.Codes.{export_desc as no_description}
use Rattle.cm_binary_forms.specs.Texts.{Production, index, vector, plain_name, extern_name}
use Rattle.cm_binary_forms.specs.Types.{export_desc}
use Rattle.cm_binary_forms.specs.Instances.{inline_export}
use Rattle.cm_shims_plain.specs.declared.codes.InstanceForm.{InstanceForm}
use Rattle.cm_shims_plain.specs.declared.codes.InstanceForm.TheVariants as instance_forms
use Rattle.cm_shims_plain.specs.declared.codes.WideDescForm.{WideDescForm}
use Rattle.cm_shims_plain.specs.declared.codes.WideDescForm.TheVariants as desc_forms
use Rattle.cm_shims_plain.specs.declared.parts.Argument.{Argument}
use Rattle.cm_shims_plain.specs.declared.parts.ShimExport.{ShimExport}
use Rattle.cm_shims_plain.specs.declared.parts.ShimImport.{ShimImport}
use Rattle.cm_shims_plain.specs.declared.parts.WideDesc.{WideDesc}
use Rattle.cm_shims_plain.specs.declared.parts.WideDesc.TheVariants as descs
use Rattle.cm_shims_plain.specs.declared.parts.WideImport.{WideImport}
use Rattle.cm_shims_plain.specs.Codes.{instance_form, wide_desc_form, type_equality}
use Rattle.cm_shims_plain.specs.Trees as trees
use Rattle.cm_shims_plain.specs.Trees.{WideInstanceTree}

-- What a shim is given: the name, the sort, the index (`instantiatearg`).
unfoldable pub argument : Production Argument
argument = do
  name ← plain_name
  sort ← code instance_export_sort
  position ← index
  done (record { name = name; sort = sort; index = position })

-- An instance behind its form: made of a shim, with what it is given; or of exports.
unfoldable pub wide_instance_of : InstanceForm → Production WideInstanceTree
wide_instance_of instance_forms.Instantiate = do
  component ← index
  args ← vector argument
  done (trees.instantiate component args)
wide_instance_of instance_forms.Exports = do
  exports ← vector inline_export
  done (trees.of_exports exports)

-- An instance (`instance`).
unfoldable pub wide_instance : Production WideInstanceTree
wide_instance = do
  form ← code instance_form
  wide_instance_of form

-- What is imported, behind its form: the index of its type; a type is equal to one.
unfoldable pub wide_desc_of : WideDescForm → Production WideDesc
wide_desc_of desc_forms.Func = do
  ty ← index
  done (descs.Func ty)
wide_desc_of desc_forms.Type = do
  equality ← code type_equality
  ty ← index
  done (descs.Type ty)
wide_desc_of desc_forms.Instance = do
  ty ← index
  done (descs.Instance ty)

-- What is imported (`externdesc`).
unfoldable pub wide_desc : Production WideDesc
wide_desc = do
  form ← code wide_desc_form
  wide_desc_of form

-- An import: its name, what it is (`import`).
unfoldable pub wide_import : Production WideImport
wide_import = do
  name ← extern_name
  desc ← wide_desc
  done (record { name = name; desc = desc })

-- An import of a shim: its name, what it is (`import`): a function by its type, a type as it is
-- bound.
unfoldable pub shim_import : Production ShimImport
shim_import = do
  name ← extern_name
  desc ← export_desc
  done (record { name = name; desc = desc })

-- The type that is ascribed to a function, if one is, behind whether it is.
unfoldable pub ascribed_of : OptionalForm → Production (Option ℕ)
ascribed_of optional_forms.Absent = done None
ascribed_of optional_forms.Present = do
  sort ← fixed (0x01 ∷ []) UnknownCode
  ty ← index
  done (Some ty)

-- What is ascribed to an export of a sort (`externdesc?`): to a type nothing.
unfoldable pub ascribed : InstanceExportSort → Production (Option ℕ)
ascribed sorts.Func = do
  form ← code optional_form
  ascribed_of form
ascribed sorts.Type = do
  nothing ← code no_description
  done None

-- An export of a shim: its name, the sort, the index, what is ascribed (`export`).
unfoldable pub shim_export : Production ShimExport
shim_export = do
  name ← extern_name
  sort ← code instance_export_sort
  position ← index
  ty ← ascribed sort
  done (record { name = name; sort = sort; index = position; ascribed = ty })
