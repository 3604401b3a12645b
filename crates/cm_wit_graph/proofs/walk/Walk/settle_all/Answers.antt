use Rattle.std.proofs.Common.{arith}
use Rattle.cm_wit_graph.specs.Walks.{standing}
use Rattle.cm_wit_graph.proofs.StandLaws.{settles_next, settles_end, entry_met}
use Rattle.cm_wit_graph.proofs.walk.Walk.settle_all.Goals as goal

pub settle-requires-clause-met : goal.settle-requires-clause-met
settle-requires-clause-met c = entry_met (standing c.args.self.now) (standing c.loop-node.self) c.args.entries.now c.loop-node.node-index c.loop-node.invariant c.requires.met (omega (arith, c.loop-node-test.true))

pub loop-node-preserved : goal.loop-node-preserved
loop-node-preserved c = settles_next (standing c.args.self.now) (standing c.loop-node.self) (standing c.settle.new.self) c.args.entries.now c.loop-node.node-index c.loop-node.invariant c.in_ok-settle.ensures.stands c.in_ok-settle.ensures.goes c.in_ok-settle.ensures.settled

pub returns-clause-settled : goal.returns-clause-settled
returns-clause-settled c = settles_end (standing c.args.self.now) (standing c.loop-node.self) c.args.entries.now c.loop-node.node-index (omega (arith, c.loop-node-test.false)) c.loop-node.invariant
