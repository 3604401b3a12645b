use Rattle.cm_wit_graph.specs.Walks.{standing}
use Rattle.cm_wit_graph.proofs.StandLaws.{SettlesAll}
use Rattle.cm_wit_graph.proofs.walk.Walk.settle_all.Given as goal

abbrev pub invariant-loop-node : goal.invariant-loop-node
invariant-loop-node l = SettlesAll (standing l.initial.self) l.entries l.node-index (standing l.self)
