use Rattle.std.proofs.Common.{◌≡◌, ℕ, List, ◌∙◌, sym, ap, get_or, arith}
use Rattle.cm_types.specs.TypeTrees.{field_of, type_of}
use Rattle.cm_types.specs.Limits.{nodes_of}
use Rattle.cm_types.specs.declared.type_trees.Field.{Field, out-Field}
use Rattle.cm_layout.specs.Sizes.{align_of}
use Rattle.cm_layout.proofs.OffsetLaws.{field_place_is, fields_before, fields_up_to}
use Rattle.cm_layout.proofs.offsets.field_offset_in.Goals as goal
use Rattle.cm_types.proofs.Seen.{seen_field}

-- the type of the field that is read
type_there : (fs : List Field) (n : ℕ) (x : Field) → x ≡ get_or fs n x → type_of (out-Field (get_or fs n x)).ty ≡ (field_of x).1
type_there fs n x e = sym (seen_field (get_or fs n x)) ∙ ap (λ (y : Field). (field_of y).1) (sym e)

pub fields_so_far-so_far-requires : goal.fields_so_far-so_far-requires
fields_so_far-so_far-requires c = record { within = omega (arith, fields_before c.args.row.now c.args.n, c.requires.within) }

pub node_head-requires : goal.node_head-requires
node_head-requires c =
    let x : Field = c.index-row-n.result in
    let e = ap nodes_of (type_there c.args.row.now c.args.n x c.index-row-n.is) in
    record { within = omega (arith, e, fields_up_to c.args.row.now c.args.n x c.requires.there c.index-row-n.is, c.requires.within) }

pub push-requires-clause-fits : goal.push-requires-clause-fits
push-requires-clause-fits c =
    let x : Field = c.index-row-n.result in
    let b = c.fields_so_far-so_far.ensures in
    let h = c.node_head.ensures in
    let e = ap nodes_of (type_there c.args.row.now c.args.n x c.index-row-n.is) in
    omega (arith, e, b.small, h.small, h.near, fields_up_to c.args.row.now c.args.n x c.requires.there c.index-row-n.is, c.requires.within)

pub push-requires-clause-narrow : goal.push-requires-clause-narrow
push-requires-clause-narrow c =
    let x : Field = c.index-row-n.result in
    let b = c.fields_so_far-so_far.ensures in
    let h = c.node_head.ensures in
    let e = ap nodes_of (type_there c.args.row.now c.args.n x c.index-row-n.is) in
    omega (arith, e, b.narrow, h.narrow, fields_up_to c.args.row.now c.args.n x c.requires.there c.index-row-n.is, c.requires.within)

pub returns : goal.returns
returns c =
    let x : Field = c.index-row-n.result in
    let fs = c.args.row.now in
    let align = c.node_head.ensures.align ∙ ap align_of (type_there fs c.args.n x c.index-row-n.is) in
    c.push.ensures.place ∙ rw (align, c.fields_so_far-so_far.ensures.end)
    (sym (field_place_is fs 0 c.args.n x c.requires.there c.index-row-n.is))
