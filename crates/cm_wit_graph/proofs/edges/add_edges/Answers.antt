use Rattle.std.proofs.Common.{ℕ, Some, None, Vec, Global, refl, sym, ap, ◌∙◌}
use Rattle.std.proofs.lemmas.List.{get_or_default}
use Rattle.std.proofs.lemmas.Result.{IfOk-from_err}
use Rattle.cm_wit_graph.specs.Reach.{edge}
use Rattle.cm_wit_graph.proofs.EdgeLaws.{edge_inside, edge_outside, finds_none, finds_some, finds_not, finds_all}
use Rattle.cm_wit_graph.proofs.edges.add_edges.Goals.{in-Some+then-used-count+in_ok-push, in-Some+else-used-count, in_default}
use Rattle.cm_wit_graph.proofs.edges.add_edges.Goals as goal

pub loop-target-init : goal.loop-target-init
loop-target-init c = finds_none (edge c.args.count c.args.number) c.args.row.now c.args.out.now.items

pub returns-in_err-push : goal.returns-in_err-push
returns-in_err-push c = IfOk-from_err c.from_residual.result _ c.from_residual.ensures.0

pub returns : goal.returns
returns c = finds_all (edge c.args.count c.args.number) c.args.row.now c.loop-target.target-index c.args.out.now.items c.loop-target.out.items c.loop-target-test.false c.loop-target.invariant

pub loop-target-preserved : goal.loop-target-preserved
loop-target-preserved c =
    let count = c.args.count in
    let number = c.args.number in
    let row = c.args.row.now in
    let i = c.loop-target.target-index in
    let start = c.args.out.now.items in
    let out = c.loop-target.out.items in
    let lt = c.loop-target-test.true in
    elim c.match-target.branch [
      | in-Some+then-used-count+in_ok-push w ↦
          let u = w.in-Some.used in
          rw (ap (λ (v : Vec (ℕ × ℕ) Global). v.items) w.out-is ∙ w.in_ok-push.ensures.items)
          (finds_some (edge count number) row i start out (Some u) (u, number) lt (sym (get_or_default row i (Some u) None lt ∙ w.in-Some.is)) (edge_inside count number u w.if-used-count.true) c.loop-target.invariant)
      | in-Some+else-used-count w ↦
          let u = w.in-Some.used in
          rw (ap (λ (v : Vec (ℕ × ℕ) Global). v.items) w.out-is)
          (finds_not (edge count number) row i start out (Some u) lt (sym (get_or_default row i (Some u) None lt ∙ w.in-Some.is)) (edge_outside count number u w.if-used-count.false) c.loop-target.invariant)
      | in_default w ↦
          rw (ap (λ (v : Vec (ℕ × ℕ) Global). v.items) w.out-is)
          (finds_not (edge count number) row i start out None lt (sym w.in_default.is) refl c.loop-target.invariant)
    ]
