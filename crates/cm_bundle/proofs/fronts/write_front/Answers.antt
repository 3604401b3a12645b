use Rattle.std.proofs.Common.{◌<◌, length, map, arith}
use Rattle.std.proofs.lemmas.Grind.{common_steps}
use Rattle.cm_lemmas.proofs.Lists.{map_length}
use Rattle.cm_bundle.specs.Room.{spaces_of}
use Rattle.cm_bundle.specs.Trees.{group_tree, supply_tree}
use Rattle.cm_bundle.proofs.FrontWritten.{front_appended, front_spaced}
use Rattle.cm_bundle.proofs.fronts.write_front.Goals as goal

pub returns : goal.returns
returns c =
    let gs = map group_tree c.args.front.now in
    let xs = map supply_tree c.in_ok-supplies.supplies.items in
    let count = map_length group_tree c.args.front.now in
    let some : 0 < length gs = grind (arith, common_steps) in
    let imported = rw c.deref.ensures.value at c.in_ok-write_imported.ensures in
    let spaces = rw c.deref-2.ensures.value at c.in_ok-front_spaces.ensures.spaces in (
      front_appended gs xs c.args.out.now.items c.write_groups.new.out.items c.push.new.self.items c.write_imported.new.out.items some c.in_ok-supplies.ensures.supplies c.in_ok-write_groups.ensures.0 c.in_ok-push.ensures.items imported,
      front_spaced gs xs (spaces_of c.in_ok-front_spaces.field-0) some c.in_ok-supplies.ensures.supplies spaces,
      c.in_ok-write_groups.ensures.1,
      c.in_ok-front_spaces.ensures.functions,
      c.in_ok-front_spaces.ensures.instances,
    )
