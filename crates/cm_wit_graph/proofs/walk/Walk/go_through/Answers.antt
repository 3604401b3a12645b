use Rattle.std.proofs.Common.{◌≤◌, arith, length, rules}
use Rattle.cm_wit_graph.specs.Walks.{standing}
use Rattle.cm_wit_graph.proofs.StandLaws.{through_past, through_all, goes_through}
use Rattle.cm_wit_graph.proofs.walk.Walk.go_through.Goals.{then-head-len+in_ok-go_on, else-head-len}
use Rattle.cm_wit_graph.proofs.walk.Walk.go_through.Goals as goal

pub loop-head-preserved : goal.loop-head-preserved
loop-head-preserved c = elim c.if-head-len.branch [
  | then-head-len+in_ok-go_on w ↦ rw w.self-is (w.in_ok-go_on.ensures.through, goes_through (standing c.args.self.now) (standing c.loop-head.self) c.loop-head.invariant.1 (standing w.go_on.new.self) w.in_ok-go_on.ensures.nodes)
  | else-head-len w ↦ rw w.self-is (through_past (standing c.loop-head.self) c.loop-head.head (let e : length c.loop-head.self.order.items ≤ c.loop-head.head = search rules in e) c.loop-head.invariant.0, c.loop-head.invariant.1)
]

pub returns-clause-through : goal.returns-clause-through
returns-clause-through c = through_all (standing c.loop-head.self) c.loop-head.head (omega (arith, c.loop-head-test.false, c.loop-head.invariant.1.0)) c.loop-head.invariant.0
