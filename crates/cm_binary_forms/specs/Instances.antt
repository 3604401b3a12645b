-- Core instances and instances (Binary.md, "Core Instance Definitions", "Instance Definitions").
use Rattle.std.specs.Prelude.{List, [], ◌∷◌}
use Rattle.cm_binary_grammar.specs.Grammar.{done, ◌>>=◌, code, fixed}
use Rattle.cm_binary_model.specs.declared.instances.InlineExport.{InlineExport}
use Rattle.cm_binary_model.specs.Trees as trees
use Rattle.cm_binary_model.specs.Trees.{ArgTree, CoreExportTree, CoreInstanceTree}
use Rattle.cm_binary_forms.specs.declared.fault.DecodeReason.TheVariants.{UnknownCode}
use Rattle.cm_binary_forms.specs.declared.codes.CoreInstanceForm.{CoreInstanceForm}
use Rattle.cm_binary_forms.specs.declared.codes.CoreInstanceForm.TheVariants as forms
use Rattle.cm_binary_forms.specs.Codes.{core_instance_form, core_sort, instance_form}
use Rattle.cm_binary_forms.specs.Codes.{instance_export_sort}
use Rattle.cm_binary_forms.specs.Texts.{Production, index, vector, text, extern_name}

-- An argument of a core instance: its name, the sort of instances, the index
-- (`core:instantiatearg`).
unfoldable pub core_arg : Production ArgTree
core_arg = do
  name ← text
  sort ← fixed (0x12 ∷ []) UnknownCode
  instance ← index
  done (record { name = name; instance = instance })

-- A core definition under a name: its name, the sort, the index (`core:inlineexport`).
unfoldable pub core_export : Production CoreExportTree
core_export = do
  name ← text
  sort ← code core_sort
  position ← index
  done (record { name = name; sort = sort; index = position })

-- A core instance behind its form: made of a module, with arguments; or of exports.
unfoldable pub core_instance_of : CoreInstanceForm → Production CoreInstanceTree
core_instance_of forms.Instantiate = do
  module_ ← index
  args ← vector core_arg
  done (trees.instantiate module_ args)
core_instance_of forms.Exports = do
  exports ← vector core_export
  done (trees.core_exports exports)

-- A core instance (`core:instance`).
unfoldable pub core_instance : Production CoreInstanceTree
core_instance = do
  form ← code core_instance_form
  core_instance_of form

-- A definition under a name: its name, the sort, the index (`inlineexport`).
unfoldable pub inline_export : Production InlineExport
inline_export = do
  name ← extern_name
  sort ← code instance_export_sort
  position ← index
  done (record { name = name; sort = sort; index = position })

-- An instance, made of exports (`instance`).
unfoldable pub instance_item : Production (List InlineExport)
instance_item = do
  form ← code instance_form
  vector inline_export
