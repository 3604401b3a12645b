use Rattle.std.proofs.Common.{refl}
use Rattle.cm_binary_model.specs.Trees.{instance_export, outer_type}
use Rattle.cm_validate_model.specs.Items.{alias_item, export_item, import_item, instance_item, type_item}
use Rattle.cm_validate_core.proofs.StayLaws.{nothing_added}
use Rattle.cm_validate_core.proofs.laws.others_add_nothing.Goals as goal

pub returns : goal.returns
returns c = record {
  instances = λ es made d s r. nothing_added (instance_item es) made d s refl refl refl refl refl refl refl r;
  aliases = λ sort i name made d s r. nothing_added (alias_item (instance_export sort i name)) made d s refl refl refl refl refl refl refl r;
  outer_aliases = λ o made d s r. nothing_added (alias_item (outer_type o)) made d s refl refl refl refl refl refl refl r;
  types = λ t made d s r. nothing_added (type_item t) made d s refl refl refl refl refl refl refl r;
  imports = λ i made d s r. nothing_added (import_item i) made d s refl refl refl refl refl refl refl r;
  exports = λ e made d s r. nothing_added (export_item e) made d s refl refl refl refl refl refl refl r;
}
