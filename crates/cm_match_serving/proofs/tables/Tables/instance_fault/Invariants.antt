use Rattle.cm_validate_entries.specs.Entries.{members_of}
use Rattle.cm_match_serving.specs.Sides.{had_funcs, had_types, set_of_pair, wanted_funcs, wanted_types}
use Rattle.cm_match_serving.specs.Tables.{AreKnown}
use Rattle.cm_match_serving.proofs.Walks.{AllServed}
use Rattle.cm_match_serving.proofs.tables.Tables.instance_fault.Given as goal

abbrev pub invariant-loop-item : goal.invariant-loop-item
invariant-loop-item l = AreKnown l.pair.linking l.self
    × AllServed (set_of_pair l.pair) l.pair.importer (wanted_types l.pair) (wanted_funcs l.pair) l.by l.pair.provider (members_of (had_types l.pair) (had_funcs l.pair) l.have) l.wanted l.item-index
