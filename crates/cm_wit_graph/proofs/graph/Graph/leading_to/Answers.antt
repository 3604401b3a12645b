use Rattle.std.proofs.Common.{◌≡◌, sym, ap, ◌∙◌, length, vec_len}
use Rattle.std.proofs.lemmas.Result.{IfOk-weaker}
use Rattle.cm_wit_graph.specs.Graphs.{GraphTree}
use Rattle.cm_wit_graph.proofs.GraphLaws.{rows_into, leads_both}
use Rattle.cm_wit_graph.proofs.graph.Graph.leading_to.Goals as goal

pub spread-requires-clause-rows : goal.spread-requires-clause-rows
spread-requires-clause-rows c =
    let nodes : vec_len c.args.marks ≡ length c.self.inside.rows.items = c.requires ∙ ap (λ (g : GraphTree). g.nodes) (sym c.self.view_is) in
    rw (c.deref-2.ensures.value, nodes) (rows_into c.self.inside.rows.items c.self.inside.edges.items c.self.invariant.0 c.self.invariant.1)

pub returns-clause-marked : goal.returns-clause-marked
returns-clause-marked c =
    IfOk-weaker c.spread.result _ _ (λ all h. leads_both c.self.inside.rows.items c.deref-2.result.now c.self.inside.edges.items c.args.self.now.edges c.args.marks.items all.items c.deref-2.ensures.value (ap (λ (g : GraphTree). g.edges) c.self.view_is) c.self.invariant.0 c.self.invariant.1 h) c.spread.ensures.marked
