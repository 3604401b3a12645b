use Rattle.std.proofs.Common.{arith, map, refl}
use Rattle.cm_lemmas.proofs.Lists.{map_length}
use Rattle.cm_bundle.specs.Trees.{supply_tree}
use Rattle.cm_bundle.proofs.Earlier.{earlier_of}
use Rattle.cm_bundle.proofs.WrittenBundle.{exports_count}
use Rattle.cm_bundle.proofs.writing.write_exports.Goals as goal

pub returns-then-supplies : goal.returns-then-supplies
returns-then-supplies c = omega (arith, c.if-supplies.true, map_length supply_tree c.args.supplies.now, exports_count (record { counts = c.args.counts; places = c.args.places.now }) (map supply_tree c.args.supplies.now))

pub write_aliases-requires : goal.write_aliases-requires
write_aliases-requires c = earlier_of _ _ (c.if-not-are_earlier.ensures.0 refl)
