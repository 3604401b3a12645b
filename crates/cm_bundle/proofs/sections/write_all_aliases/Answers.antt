use Rattle.cm_bundle.proofs.Earlier.{earlier_here}
use Rattle.cm_bundle.proofs.Items.{no_supply}
use Rattle.cm_bundle.proofs.sections.write_all_aliases.Goals as goal

pub write_alias-requires : goal.write_alias-requires
write_alias-requires c = earlier_here _ c.args.supplies.now c.loop-supply.supply-index no_supply c.loop-supply-test.true c.requires
