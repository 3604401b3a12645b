use Rattle.std.proofs.Common.{◌≡◌, ◌<◌, length, ◌∙◌, sym, ap, append-nil, arith}
use Rattle.cm_wit_graph.specs.Rows.{row_of}
use Rattle.cm_wit_graph.proofs.MarkLaws.{Spreads, pending_within, row_is, spread_step, spread_ends, spread_empty}
use Rattle.cm_wit_graph.proofs.leading.spread.Goals as goal

pub unreachable-requires : goal.unreachable-requires
unreachable-requires c =
    let lt : c.in-Some.node < length c.args.rows.now = omega (arith, c.requires.size, c.loop-node.invariant.0, pending_within (row_of c.args.rows.now) c.args.marks.items c.loop-node.marks.items c.loop-node.pending.items c.pop.new.self.items c.in-Some.node c.loop-node.invariant.1 c.in-Some.ensures.items) in
    absurd (let e = c.in_default-get.ensures.lookup.2 lt in cc)

pub mark_all-requires : goal.mark_all-requires
mark_all-requires c =
    let lt : c.in-Some.node < length c.args.rows.now = omega (arith, c.requires.size, c.loop-node.invariant.0, pending_within (row_of c.args.rows.now) c.args.marks.items c.loop-node.marks.items c.loop-node.pending.items c.pop.new.self.items c.in-Some.node c.loop-node.invariant.1 c.in-Some.ensures.items) in
    let row = row_is c.args.rows.now c.in-Some.node c.in-Some-get.row.now lt c.in-Some-get.ensures.lookup.1 in
    rw (c.deref.ensures.value, ← row, c.loop-node.invariant.0) (c.requires.rows c.in-Some.node)

pub loop-node-preserved : goal.loop-node-preserved
loop-node-preserved c =
    let lt : c.in-Some.node < length c.args.rows.now = omega (arith, c.requires.size, c.loop-node.invariant.0, pending_within (row_of c.args.rows.now) c.args.marks.items c.loop-node.marks.items c.loop-node.pending.items c.pop.new.self.items c.in-Some.node c.loop-node.invariant.1 c.in-Some.ensures.items) in
    let row = row_is c.args.rows.now c.in-Some.node c.in-Some-get.row.now lt c.in-Some-get.ensures.lookup.1 in
    (c.in_ok-mark_all.ensures.len ∙ c.loop-node.invariant.0, spread_step (row_of c.args.rows.now) c.args.marks.items c.loop-node.marks.items c.mark_all.new.marks.items c.loop-node.pending.items c.pop.new.self.items c.mark_all.new.pending.items c.deref.result.now c.in-Some.node c.loop-node.invariant.1 c.in-Some.ensures.items (row ∙ sym c.deref.ensures.value) c.in_ok-mark_all.ensures.marked)

pub returns-clause-marked : goal.returns-clause-marked
returns-clause-marked c =
    let s = spread_empty (row_of c.args.rows.now) c.args.marks.items c.loop-node.marks.items c.loop-node.pending.items c.loop-node.invariant.1 (omega (arith, c.in_default.ensures.cases.0)) in
    λ a. (λ m. s.sound a m, λ l. spread_ends (row_of c.args.rows.now) c.args.marks.items c.loop-node.marks.items s a l)
