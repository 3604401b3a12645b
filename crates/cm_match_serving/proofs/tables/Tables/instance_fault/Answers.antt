use Rattle.std.proofs.Common.{sym}
use Rattle.cm_validate_entries.specs.Entries.{members_of}
use Rattle.cm_match_serving.specs.Sides.{had_funcs, had_types, set_of_pair, wanted_funcs, wanted_types}
use Rattle.cm_match_serving.proofs.Walks.{all_served, first_unserved}
use Rattle.cm_match_serving.proofs.tables.Tables.instance_fault.Goals as goal

pub returns-then-is_some-clause-fault : goal.returns-then-is_some-clause-fault
returns-then-is_some-clause-fault c =
    let p = c.args.pair.now in
    first_unserved (set_of_pair p) p.importer (wanted_types p) (wanted_funcs p) c.args.by p.provider (members_of (had_types p) (had_funcs p) c.args.have.now) c.args.wanted.now
    c.loop-item.item-index c.item-item.result c.loop-item-test.true c.item-item.is c.in_ok-fault.fault (sym c.if-is_some.ensures) c.in_ok-fault.ensures.fault c.loop-item.invariant.1

pub returns-clause-fault : goal.returns-clause-fault
returns-clause-fault c =
    let p = c.args.pair.now in
    all_served (set_of_pair p) p.importer (wanted_types p) (wanted_funcs p) c.args.by p.provider (members_of (had_types p) (had_funcs p) c.args.have.now) c.args.wanted.now
    c.loop-item.item-index c.loop-item-test.false c.loop-item.invariant.1
