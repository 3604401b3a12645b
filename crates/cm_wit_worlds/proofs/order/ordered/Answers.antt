use Rattle.std.proofs.Common.{[], List, ℕ, map, subst}
use Rattle.std.specs.Global.{Vec}
use Rattle.cm_wit_graph.specs.DepthFirst.{Orders, needs_of}
use Rattle.cm_wit_worlds.proofs.OrderLaws.{imports_are}
use Rattle.cm_wit_worlds.proofs.order.ordered.Goals as goal

of_text : (c : goal.After-drop-needs-2) → Orders (needs_of c.in_ok-needs.needs.items) [] c.args.written.now c.place_all.new.order.keys
of_text c = subst (λ (ns : List (Vec ℕ)). Orders (needs_of ns) [] c.args.written.now c.place_all.new.order.keys) c.deref.ensures.value (subst (λ (l : List ℕ). Orders (needs_of c.deref.result.now) l c.args.written.now c.place_all.new.order.keys) c.new-order.ensures.empty (c.in_ok-place_all.ensures c.if-not-branch.false))

of_exports : (c : goal.After-drop-needs-2) → Orders (needs_of c.in_ok-needs.needs.items) c.place_all.new.order.keys c.in_ok-others.others.items c.place_all-2.new.order.keys
of_exports c = subst (λ (ns : List (Vec ℕ)). Orders (needs_of ns) c.place_all.new.order.keys c.in_ok-others.others.items c.place_all-2.new.order.keys) c.deref-3.ensures.value (subst (λ (l : List ℕ). Orders (needs_of c.deref-3.result.now) c.place_all.new.order.keys l c.place_all-2.new.order.keys) c.deref-4.ensures.value (c.in_ok-place_all-2.ensures c.if-not-branch-2.false))

pub returns : goal.returns
returns c = rw c.in_ok-list.ensures (imports_are c.in_ok-needs.needs.items (map (λ r. r.items) c.args.rows.now) c.args.written.now c.args.exports.now c.place_all.new.order.keys c.in_ok-others.others.items c.place_all-2.new.order.keys c.in_ok-needs.ensures (of_text c) (rw (← c.deref-2.ensures.value) c.in_ok-others.ensures) (of_exports c))
