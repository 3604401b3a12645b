use Rattle.std.proofs.Common.{refl}
use Rattle.cm_types.specs.DefTypes.{func_def, instance_def, value_def}
use Rattle.cm_binary_model.specs.Trees.{core_instance_export, lower, outer_type, resource_drop, resource_new, resource_rep}
use Rattle.cm_validate_model.specs.Items.{alias_item, canon_item, core_instance_item, core_module_item, type_item}
use Rattle.cm_validate_entries.proofs.StayLaws.{nothing_added}
use Rattle.cm_validate_entries.proofs.laws.others_add_nothing.Goals as goal

pub returns : goal.returns
returns c = record {
  core_modules = λ types funcs d s r. nothing_added types funcs d s core_module_item refl refl refl refl refl r;
  core_instances = λ i types funcs d s r. nothing_added types funcs d s (core_instance_item i) refl refl refl refl refl r;
  core_aliases = λ sort i name types funcs d s r. nothing_added types funcs d s (alias_item (core_instance_export sort i name)) refl refl refl refl refl r;
  outer_aliases = λ o types funcs d s r. nothing_added types funcs d s (alias_item (outer_type o)) refl refl refl refl refl r;
  value_types = λ v types funcs d s r. nothing_added types funcs d s (type_item (value_def v)) refl refl refl refl refl r;
  func_types = λ f types funcs d s r. nothing_added types funcs d s (type_item (func_def f)) refl refl refl refl refl r;
  instance_types = λ ds types funcs d s r. nothing_added types funcs d s (type_item (instance_def ds)) refl refl refl refl refl r;
  lowers = λ f os types funcs d s r. nothing_added types funcs d s (canon_item (lower f os)) refl refl refl refl refl r;
  making = λ i types funcs d s r. nothing_added types funcs d s (canon_item (resource_new i)) refl refl refl refl refl r;
  dropping = λ i types funcs d s r. nothing_added types funcs d s (canon_item (resource_drop i)) refl refl refl refl refl r;
  reading = λ i types funcs d s r. nothing_added types funcs d s (canon_item (resource_rep i)) refl refl refl refl refl r;
}
