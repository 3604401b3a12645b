use Rattle.std.proofs.Common.{arith, refl}
use Rattle.cm_lemmas.proofs.Lists.{map_length}
use Rattle.cm_bundle.specs.Trees.{part_tree, supply_tree}
use Rattle.cm_bundle.proofs.Earlier.{earlier_of}
use Rattle.cm_bundle.proofs.WrittenBundle.{part_count}
use Rattle.cm_bundle.proofs.writing.write_part.Goals as goal

pub returns-then-len : goal.returns-then-len
returns-then-len c = omega (arith, c.if-len.true, c.len.ensures, map_length supply_tree c.args.part.now.arguments.items, part_count (record { counts = c.args.counts; places = c.args.places.now }) (part_tree c.args.part.now))

pub write_aliases-requires : goal.write_aliases-requires
write_aliases-requires c = rw c.deref-2.ensures.value (earlier_of _ _ (rw c.deref.ensures.value at (c.if-not-are_earlier.ensures.0 refl)))
