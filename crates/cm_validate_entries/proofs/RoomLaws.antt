-- Spaces that got room for more hold the same.
use Rattle.std.proofs.Common.{◌≡◌, ◌∙◌, length, map, sym, ap}
use Rattle.std.specs.List.{list_all}
use Rattle.cm_types_arena.specs.Externs.{extern_of, is_extern_there}
use Rattle.cm_types_arena.specs.declared.externs.Extern.{Extern}
use Rattle.cm_validate_items.specs.Resources.{resources_in}
use Rattle.cm_validate_core.specs.NameSets.{KnowsSame}
use Rattle.cm_validate_entries.specs.ComponentSpaces.{Stays, export_def, is_exported_there}
use Rattle.cm_validate_entries.specs.Entries.{are_members_there, func_def, is_func_there, members_of}
use Rattle.cm_validate_entries.specs.declared.spaces.ComponentSpaces.{ComponentSpaces}
use Rattle.cm_validate_entries.specs.declared.spaces.ExportEntry.{ExportEntry}

pub same_stays : (old new : ComponentSpaces)
    → new.funcs.items ≡ old.funcs.items → new.instances.items ≡ old.instances.items → new.resources ≡ old.resources
    → new.imports.items ≡ old.imports.items → KnowsSame old.import_names new.import_names
    → new.exports.items ≡ old.exports.items → KnowsSame old.export_names new.export_names → Stays old new
same_stays old new fs is rs ims inn es en = λ types funcs s r. record {
  reached = r.reached;
  funcs_are = r.funcs_are ∙ ap (map (func_def funcs)) (sym fs);
  instances_are = r.instances_are ∙ ap (map (members_of types funcs)) (sym is);
  resources_are = r.resources_are ∙ ap resources_in (sym rs);
  imports_are = r.imports_are ∙ ap (map (extern_of types funcs)) (sym ims);
  import_names = λ name. inn name ∙ r.import_names name;
  exports_are = r.exports_are ∙ ap (map (export_def types funcs)) (sym es);
  export_names = λ name. en name ∙ r.export_names name;
  funcs_there = ap (list_all (is_func_there (length funcs))) fs ∙ r.funcs_there;
  instances_there = ap (list_all (are_members_there (length types) (length funcs))) is ∙ r.instances_there;
  imports_there = ap (list_all (λ (e : Extern). is_extern_there (length types) (length funcs) e.desc)) ims ∙ r.imports_there;
  exports_there = ap (list_all (λ (e : ExportEntry). is_exported_there (length types) (length funcs) e.def)) es ∙ r.exports_there;
}
