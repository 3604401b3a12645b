-- The numbers of what is marked.
use Rattle.cm_wit_graph.proofs.MarkLaws.{lists_all, lists_marked, lists_none, lists_unmarked}

pub ruleset mark_laws = (lists_none, lists_marked, lists_unmarked, lists_all)
