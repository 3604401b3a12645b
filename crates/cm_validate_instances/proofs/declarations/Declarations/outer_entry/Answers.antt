use Rattle.cm_validate_instances.proofs.MovedLaws.{around_moved, own_moved}
use Rattle.cm_validate_instances.proofs.declarations.Declarations.outer_entry.Goals as goal

pub returns-in-0-clause-moved : goal.returns-in-0-clause-moved
returns-in-0-clause-moved c =
    let s = c.args.self.now in
    own_moved s.scope s.first c.get.result s.moved_counted c.get.ensures.moved

pub returns-in-1-clause-moved : goal.returns-in-1-clause-moved
returns-in-1-clause-moved c =
    let s = c.args.self.now in
    around_moved c.moves_stay.ensures.counted s.scope s.first c.args.outer.index c.get_around.result c.get_around.ensures.there
