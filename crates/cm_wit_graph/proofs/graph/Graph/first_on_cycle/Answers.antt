use Rattle.std.proofs.Common.{◌≡◌, Bool, true, false, subst, arith}
use Rattle.cm_wit_graph.specs.Graphs.{Edges, NoneBelow}
use Rattle.cm_wit_graph.proofs.CycleLaws.{none_below_more, none_at_all}
use Rattle.cm_wit_graph.proofs.graph.Graph.first_on_cycle.Goals as goal

both : (b : Bool) → b ≡ false → b ≡ true → ⊥
both b p q = cc

pub loop-node-init : goal.loop-node-init
loop-node-init c = subst (λ (es : Edges). NoneBelow es c.first_candidate-node.result) c.edges-edges.ensures.edges c.first_candidate-node.ensures

pub loop-node-preserved : goal.loop-node-preserved
loop-node-preserved c = none_below_more c.args.self.now.edges c.loop-node.node c.loop-node.invariant (λ r. both c.in_ok-reaches_itself.field-0 c.if-branch.false (c.in_ok-reaches_itself.ensures.1 r))

pub returns : goal.returns
returns c = none_at_all c.args.self.now.edges c.args.self.now.nodes c.loop-node.node c.edges-edges.ensures.within c.loop-node.invariant (omega arith)
