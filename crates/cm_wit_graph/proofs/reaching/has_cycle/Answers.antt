use Rattle.std.proofs.Common.{subst, ap, ◌∙◌}
use Rattle.cm_wit_graph.specs.Graphs.{IsFirstOnCycle, Edges}
use Rattle.cm_wit_graph.specs.Marked.{marked_edges}
use Rattle.cm_wit_graph.proofs.ReachLaws.{cycle_found, cycle_seen}
use Rattle.cm_wit_graph.proofs.EdgeLaws.{kept_within}
use Rattle.cm_wit_graph.proofs.reaching.has_cycle.Goals as goal

pub new-requires : goal.new-requires
new-requires c = rw (c.in_ok-kept.ensures, c.nodes.ensures, c.edges.ensures.edges) (kept_within c.args.graph.now.nodes c.args.marks.now c.args.graph.now.edges c.edges.ensures.within)

pub returns : goal.returns
returns c starts r =
    let kept = subst (λ (es : Edges). IsFirstOnCycle es c.in_ok-first.first) (c.in_ok-new.ensures.edges ∙ (c.in_ok-kept.ensures ∙ ap (marked_edges c.args.marks.now) c.edges.ensures.edges)) c.in_ok-first.ensures in
    rw c.is_some.ensures (cycle_found c.args.graph.now.edges starts c.args.marks.now c.in_ok-first.first kept r, cycle_seen c.args.graph.now.edges starts c.args.marks.now c.in_ok-first.first kept r)
