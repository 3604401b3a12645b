use Rattle.std.proofs.Common.{◌+◌, ap, map, drop}
use Rattle.std.proofs.lemmas.Result.{err_from_is_err_and}
use Rattle.cm_lemmas.proofs.Lists.{next_element, drop_past}
use Rattle.cm_bundle.specs.Room.{spaces_of}
use Rattle.cm_bundle.specs.Spelled.{Spaces}
use Rattle.cm_bundle.specs.Trees.{part_tree, supply_tree, bundle_tree}
use Rattle.cm_bundle.proofs.Refusing.{part_wrong, body_ends_written}
use Rattle.cm_bundle.proofs.writing.write_body.Goals as goal

pub returns-in_err-aliased : goal.returns-in_err-aliased
returns-in_err-aliased c =
    let l = c.loop-part in
    let p = err_from_is_err_and c.from_residual.result c.from_residual.ensures.1 in
    let b = c.args.bundle.now in
    let s : Spaces = record { counts = l.counts; places = l.places.items } in
    let lt = rw c.deref-part-items.ensures.value at c.loop-part-test.true in
    let is = rw c.deref-part-items.ensures.value at c.part-item.is in
    let n = next_element part_tree b.parts.items l.part-index c.part-item.result lt is in
    let wrong = rw c.deref.ensures.value at c.in_err-aliased.ensures in
    rw (p.1, p.2) (part_wrong c.in_err-aliased.field-0.0 s (part_tree c.part-item.result) _ (map part_tree (drop (l.part-index + 1) b.parts.items)) (map supply_tree b.exports.items) l.out.items _ _ n l.invariant.0 l.invariant.1 wrong)

pub returns : goal.returns
returns c =
    let l = c.loop-part in
    let b = c.args.bundle.now in
    let s : Spaces = record { counts = l.counts; places = l.places.items } in
    let past = rw c.deref-part-items.ensures.value at c.loop-part-test.false in
    let wrote = rw (c.deref-2.ensures.value, c.deref-3.ensures.value) at c.write_exports.ensures in
    body_ends_written c.write_exports.result (bundle_tree b) (spaces_of c.args.spaces) s (map part_tree (drop l.part-index b.parts.items)) l.out.items c.args.out.now.items c.write_exports.new.out.items (ap (map part_tree) (drop_past b.parts.items l.part-index past)) l.invariant.0 l.invariant.1 wrote
