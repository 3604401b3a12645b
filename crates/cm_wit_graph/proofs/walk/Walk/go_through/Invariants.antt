use Rattle.cm_wit_graph.specs.Walks.{standing, IsThrough, AreSameNodes}
use Rattle.cm_wit_graph.proofs.walk.Walk.go_through.Given as goal

abbrev pub invariant-loop-head : goal.invariant-loop-head
invariant-loop-head l = IsThrough (standing l.self) l.head × AreSameNodes (standing l.initial.self) (standing l.self)
