use Rattle.std.proofs.Common.{ℕ, ◌++◌, List, length, Option, Vec, Global, map, sym, ap, ◌∙◌}
use Rattle.std.proofs.lemmas.List.{length-map}
use Rattle.std.proofs.lemmas.Result.{IfOk-from_err}
use Rattle.std.specs.List.{filter_map}
use Rattle.cm_wit_graph.specs.Reach.{edge, edges_from}
use Rattle.cm_wit_graph.proofs.EdgeLaws.{joins_none, joins_next, joins_all}
use Rattle.cm_wit_graph.proofs.edges.used_by.Goals as goal

pub returns-in_err-add_edges : goal.returns-in_err-add_edges
returns-in_err-add_edges c = IfOk-from_err c.from_residual.result _ c.from_residual.ensures.0

pub loop-number-init : goal.loop-number-init
loop-number-init c = rw c.new-edges.ensures.items (joins_none (λ (r : Vec (Option ℕ) Global). r.items) (length c.args.rows.now) c.args.rows.now)

pub loop-number-preserved : goal.loop-number-preserved
loop-number-preserved c =
    let rows = c.args.rows.now in
    let i = c.loop-number.number in
    let out = c.loop-number.edges.items in
    let x = c.index-rows-number.result in
    joins_next (λ (r : Vec (Option ℕ) Global). r.items) (length rows) rows i out c.add_edges.new.out.items x c.loop-number-test.true c.index-rows-number.is
    (c.in_ok-add_edges.ensures ∙ ap (λ (row : List (Option ℕ)). out ++ filter_map (edge (length rows) i) row) c.deref.ensures.value) c.loop-number.invariant

pub returns : goal.returns
returns c =
    let rows = c.args.rows.now in
    let items = λ (r : Vec (Option ℕ) Global). r.items in
    joins_all items (length rows) rows c.loop-number.number c.loop-number.edges.items c.loop-number-test.false c.loop-number.invariant
    ∙ ap (λ (n : ℕ). edges_from n 0 (map items rows)) (sym (length-map rows items))
