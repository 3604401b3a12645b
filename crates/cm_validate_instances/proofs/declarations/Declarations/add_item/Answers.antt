use Rattle.std.proofs.Common.{is_ok}
use Rattle.cm_validate_instances.proofs.MovedLaws.{known_more, there_more}
use Rattle.cm_validate_instances.proofs.declarations.Declarations.add_item.Goals as goal

pub invariant_of-self : goal.invariant_of-self
invariant_of-self c =
    let d = c.args.self.now in
    record {
      counted = d.counted;
      items_placed = there_more d.scope (is_ok c.push.result) d.items.items c.push.new.self.items _ c.push.ensures.items d.items_placed c.requires.placed;
      moved_counted = d.moved_counted;
      items_settled = known_more d.scope (is_ok c.push.result) d.items.items c.push.new.self.items _ c.push.ensures.items d.first d.items_settled c.requires.settled;
    }
