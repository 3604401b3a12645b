-- No form is spelled by no byte.
use Rattle.std.proofs.Common.{ℕ, ◌<◌, List, [], ◌∷◌, ◌++◌, length, ap, arith}
use Rattle.std.specs.Prelude.{pos}
use Rattle.std.proofs.lemmas.List.{length-append}
use Rattle.cm_leb.specs.NumbersWritten.{shortest_unsigned, shortest_signed}
use Rattle.cm_leb.proofs.ShortestLaws.{shortest_signed-apart}
use Rattle.cm_binary_grammar.specs.Spelling.{blob_spelling}
use Rattle.cm_types.specs.declared.def_types.ValType.{ValType}
use Rattle.cm_types.specs.declared.def_types.ValType.TheVariants as val_types
use Rattle.cm_types.specs.declared.def_types.LabeledValType.{LabeledValType}
use Rattle.cm_types.specs.declared.def_types.CaseType.{CaseType}
use Rattle.cm_types.specs.DefTypes.{DeclarationTree, type_decl, outer_type_decl, export_decl, DefTypeTree, value_def, func_def, resource_def, instance_def}
use Rattle.cm_binary_model.specs.declared.instances.InlineExport.{InlineExport}
use Rattle.cm_binary_model.specs.declared.canons.CanonOption.{CanonOption}
use Rattle.cm_binary_model.specs.declared.canons.CanonOption.TheVariants as options
use Rattle.cm_binary_model.specs.declared.externs.Import.{Import}
use Rattle.cm_binary_model.specs.declared.externs.Export.{Export}
use Rattle.cm_binary_model.specs.Trees as trees
use Rattle.cm_binary_model.specs.Trees.{ArgTree, CoreExportTree, CoreInstanceTree, AliasTree, CanonTree}
use Rattle.cm_binary_model.specs.Spelling.{core_arg_spelling, core_sort_code, core_export_spelling, core_instance_spelling, inline_export_spelling, instance_spelling, alias_spelling, val_type_spelling, optional_spelling, param_spelling, case_spelling, declaration_spelling, def_spelling, option_spelling, canon_spelling, import_spelling, export_spelling}

pub core_arg_some : (a : ArgTree) → 0 < length (core_arg_spelling a)
core_arg_some a = omega (arith, length-append (blob_spelling a.name) (18 ∷ shortest_unsigned a.instance))

pub core_export_some : (e : CoreExportTree) → 0 < length (core_export_spelling e)
core_export_some e = omega (arith, length-append (blob_spelling e.name) (core_sort_code e.sort ∷ shortest_unsigned e.index))

pub core_instance_some : (i : CoreInstanceTree) → 0 < length (core_instance_spelling i)
core_instance_some (trees.instantiate m args) = omega arith
core_instance_some (trees.core_exports exports) = omega arith

pub inline_export_some : (e : InlineExport) → 0 < length (inline_export_spelling e)
inline_export_some e = omega arith

pub instance_some : (i : List InlineExport) → 0 < length (instance_spelling i)
instance_some i = omega arith

pub alias_some : (a : AliasTree) → 0 < length (alias_spelling a)
alias_some (trees.instance_export sort i name) = omega arith
alias_some (trees.core_instance_export sort i name) = omega arith
alias_some (trees.outer_type outer) = omega arith

pub blob_some : (text : List ℕ) → 0 < length (blob_spelling text)
blob_some [] = omega arith
blob_some (b ∷ text) = omega (arith, length-append (shortest_unsigned (length (b ∷ text))) (b ∷ text))

signed_some : (n : ℕ) → 0 < length (shortest_signed (pos n))
signed_some n = omega (arith, ap length (shortest_signed-apart n).parts)

pub val_type_some : (ty : ValType) → 0 < length (val_type_spelling ty)
val_type_some (val_types.Primitive p) = omega arith
val_type_some (val_types.Index i) = signed_some i

pub param_some : (p : LabeledValType) → 0 < length (param_spelling p)
param_some p = omega (arith, blob_some p.label, length-append (blob_spelling p.label) (val_type_spelling p.ty))

pub case_some : (c : CaseType) → 0 < length (case_spelling c)
case_some c = omega (arith, blob_some c.label, length-append (blob_spelling c.label) (optional_spelling val_type_spelling c.payload ++ (0x00 ∷ [])))

pub declaration_some : (d : DeclarationTree) → 0 < length (declaration_spelling d)
declaration_some (type_decl t) = omega arith
declaration_some (outer_type_decl outer) = omega arith
declaration_some (export_decl e) = omega arith

pub def_some : (t : DefTypeTree) → 0 < length (def_spelling t)
def_some (value_def v) = omega arith
def_some (func_def f) = omega arith
def_some (resource_def destructor) = omega arith
def_some (instance_def declarations) = omega arith

pub option_some : (o : CanonOption) → 0 < length (option_spelling o)
option_some options.Utf8 = omega arith
option_some options.Utf16 = omega arith
option_some options.Latin1Utf16 = omega arith
option_some (options.Memory i) = omega arith
option_some (options.Realloc i) = omega arith
option_some (options.PostReturn i) = omega arith

pub canon_some : (c : CanonTree) → 0 < length (canon_spelling c)
canon_some (trees.lift f opts t) = omega arith
canon_some (trees.lower f opts) = omega arith
canon_some (trees.resource_new r) = omega arith
canon_some (trees.resource_drop r) = omega arith
canon_some (trees.resource_rep r) = omega arith

pub import_some : (i : Import) → 0 < length (import_spelling i)
import_some i = omega arith

pub export_some : (e : Export) → 0 < length (export_spelling e)
export_some e = omega arith
