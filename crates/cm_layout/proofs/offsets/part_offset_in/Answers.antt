use Rattle.std.proofs.Common.{◌∙◌, sym, arith}
use Rattle.cm_layout.proofs.OffsetLaws.{part_place_is, parts_before, parts_up_to}
use Rattle.cm_layout.proofs.offsets.part_offset_in.Goals as goal

pub parts_so_far-so_far-requires : goal.parts_so_far-so_far-requires
parts_so_far-so_far-requires c = record { within = omega (arith, parts_before c.args.row.now c.args.n, c.requires.within) }

pub node_head-requires : goal.node_head-requires
node_head-requires c = record { within = omega (arith, parts_up_to c.args.row.now c.args.n c.index-row-n.result c.requires.there c.index-row-n.is, c.requires.within) }

pub push-requires-clause-fits : goal.push-requires-clause-fits
push-requires-clause-fits c =
    let b = c.parts_so_far-so_far.ensures in
    let h = c.node_head.ensures in
    omega (arith, b.small, h.small, h.near, parts_up_to c.args.row.now c.args.n c.index-row-n.result c.requires.there c.index-row-n.is, c.requires.within)

pub push-requires-clause-narrow : goal.push-requires-clause-narrow
push-requires-clause-narrow c =
    let b = c.parts_so_far-so_far.ensures in
    let h = c.node_head.ensures in
    omega (arith, b.narrow, h.narrow, parts_up_to c.args.row.now c.args.n c.index-row-n.result c.requires.there c.index-row-n.is, c.requires.within)

pub returns : goal.returns
returns c =
    c.push.ensures.place ∙ rw (c.node_head.ensures.align, c.parts_so_far-so_far.ensures.end)
    (sym (part_place_is c.args.row.now 0 c.args.n c.index-row-n.result c.requires.there c.index-row-n.is))
