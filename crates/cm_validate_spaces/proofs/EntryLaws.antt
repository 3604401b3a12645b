-- What is kept of the index spaces of a whole component.
use Rattle.std.proofs.Common.{◌≡◌, ℕ, true, List, length, map, subst}
use Rattle.std.specs.List.{list_all}
use Rattle.cm_types.specs.Types.{Ty, FuncTy}
use Rattle.cm_types_arena.specs.Externs.{extern_of, is_extern_there}
use Rattle.cm_validate_model.specs.Definitions.{CoreFuncDef}
use Rattle.cm_validate_model.specs.Spaces.{Spaces}
use Rattle.cm_validate_core.specs.Entries.{func_of}
use Rattle.cm_validate_items.specs.Resources.{resources_in}
use Rattle.cm_validate_entries.specs.ComponentSpaces.{export_def, is_exported_there}
use Rattle.cm_validate_spaces.specs.ComponentEntries.{AreEntriesOf, funcs_in, types_in}
use Rattle.cm_validate_spaces.specs.Made.{Tells, is_made_there, made_def}
use Rattle.cm_validate_spaces.specs.declared.entries.ComponentEntries.{ComponentEntries}

both : {A B : Type 0} (P : A → B → Type 0) (a c : A) (b d : B) → a ≡ c → b ≡ d → P a b → P c d
both P a c b d e f p = subst (λ x. P x d) e (subst (λ y. P a y) f p)

-- they are said over an arena with the same types
pub entries_are : (types : List Ty) (funcs : List FuncTy) (e : ComponentEntries) (s : Spaces) → types ≡ types_in e → funcs ≡ funcs_in e
    → s.imports ≡ map (extern_of types funcs) e.imports.items
    → s.exports ≡ map (export_def types funcs) e.exports.items
    → s.resources ≡ resources_in e.resources
    → ((made : ℕ → CoreFuncDef) → Tells made (map (made_def funcs) e.made.items) → s.core_funcs ≡ map (func_of made) e.core_funcs.items)
    → list_all (λ i. is_extern_there (length types) (length funcs) i.desc) e.imports.items ≡ true
    → list_all (λ x. is_exported_there (length types) (length funcs) x.def) e.exports.items ≡ true
    → list_all (is_made_there (length funcs)) e.made.items ≡ true
    → AreEntriesOf e s
entries_are types funcs e s ts fs imports exports resources core there out_there made_there = record {
  imports_are = both (λ t f. s.imports ≡ map (extern_of t f) e.imports.items) types (types_in e) funcs (funcs_in e) ts fs imports;
  exports_are = both (λ t f. s.exports ≡ map (export_def t f) e.exports.items) types (types_in e) funcs (funcs_in e) ts fs exports;
  resources_are = resources;
  core_funcs_are = subst (λ (f : List FuncTy). (made : ℕ → CoreFuncDef) → Tells made (map (made_def f) e.made.items) → s.core_funcs ≡ map (func_of made) e.core_funcs.items) fs core;
  imports_there = both (λ t f. list_all (λ i. is_extern_there (length t) (length f) i.desc) e.imports.items ≡ true) types (types_in e) funcs (funcs_in e) ts fs there;
  exports_there = both (λ t f. list_all (λ x. is_exported_there (length t) (length f) x.def) e.exports.items ≡ true) types (types_in e) funcs (funcs_in e) ts fs out_there;
  made_there = subst (λ (f : List FuncTy). list_all (is_made_there (length f)) e.made.items ≡ true) fs made_there;
}
