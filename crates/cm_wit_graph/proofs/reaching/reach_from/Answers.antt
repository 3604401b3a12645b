use Rattle.std.proofs.Common.{◌≡◌, ◌<◌, ◌↔◌, ℕ, List, Some, subst, sym, ◌∙◌, map, refl, is_none, Bool, IsTrue}
use Rattle.std.specs.List.{Contains, list_any}
use Rattle.cm_wit_graph.specs.Graphs.{Edges, IsMarked, LeadsToMarked, ReachesItself}
use Rattle.cm_wit_graph.specs.Reach.{used_by, Rows}
use Rattle.std.proofs.lemmas.List.{length-map}
use Rattle.cm_wit_graph.proofs.EdgeLaws.{used_within}
use Rattle.cm_wit_graph.proofs.ReachLaws.{is_reached, is_missing, is_cyclic}
use Rattle.cm_wit_graph.proofs.reaching.reach_from.Goals as goal

pub new-requires : goal.new-requires
new-requires c = rw (c.in_ok-edges.ensures, ← (length-map c.args.rows.now (λ r. r.items))) (used_within (map (λ r. r.items) c.args.rows.now))

pub returns-clause-marks : goal.returns-clause-marks
returns-clause-marks c =
    let rows : Rows = map (λ r. r.items) c.args.rows.now in
    let graph : c.in_ok-graph.graph.edges ≡ used_by rows = c.in_ok-graph.ensures.edges ∙ c.in_ok-edges.ensures in
    is_reached rows c.args.named.now c.in_ok-starts.starts.items c.in_ok-marks.marks.items (λ k. subst (λ (n : ℕ). IsMarked c.in_ok-starts.starts.items k ↔ ((k < n) × Contains c.args.named.now (Some k))) (sym (length-map c.args.rows.now (λ r. r.items))) (c.in_ok-starts.ensures.marked k)) (λ a. subst (λ (es : Edges). IsMarked c.in_ok-marks.marks.items a ↔ LeadsToMarked es c.in_ok-starts.starts.items a) graph (c.in_ok-marks.ensures.marked a))

pub returns-clause-missing : goal.returns-clause-missing
returns-clause-missing c =
    let rows : Rows = map (λ r. r.items) c.args.rows.now in
    let found = is_missing rows c.args.named.now c.in_ok-marks.marks.items c.marked_missing-inside.result (returns-clause-marks c) (rw (← c.deref.ensures.value) c.marked_missing-inside.ensures) (list_any is_none c.args.named.now) refl in
    rw (c.either-missing.ensures, c.has_missing.ensures) found

pub returns-clause-cyclic : goal.returns-clause-cyclic
returns-clause-cyclic c =
    let rows : Rows = map (λ r. r.items) c.args.rows.now in
    let graph : c.in_ok-graph.graph.edges ≡ used_by rows = c.in_ok-graph.ensures.edges ∙ c.in_ok-edges.ensures in
    let found : IsTrue c.in_ok-cyclic.cyclic ↔ ((k : ℕ) × IsMarked c.in_ok-marks.marks.items k × ReachesItself c.in_ok-graph.graph.edges k) =
    subst (λ (ms : List Bool). IsTrue c.in_ok-cyclic.cyclic ↔ ((k : ℕ) × IsMarked ms k × ReachesItself c.in_ok-graph.graph.edges k)) c.deref-2.ensures.value (c.in_ok-cyclic.ensures c.in_ok-starts.starts.items (subst (λ (ms : List Bool). (a : ℕ) → IsMarked ms a ↔ LeadsToMarked c.in_ok-graph.graph.edges c.in_ok-starts.starts.items a) (sym c.deref-2.ensures.value) c.in_ok-marks.ensures.marked)) in
    is_cyclic rows c.args.named.now c.in_ok-marks.marks.items c.in_ok-cyclic.cyclic (returns-clause-marks c) (subst (λ (es : Edges). IsTrue c.in_ok-cyclic.cyclic ↔ ((k : ℕ) × IsMarked c.in_ok-marks.marks.items k × ReachesItself es k)) graph found)
