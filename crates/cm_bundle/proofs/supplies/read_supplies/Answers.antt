use Rattle.std.proofs.Common.{◌∙◌, ap, length, map, arith, get_or}
use Rattle.std.proofs.lemmas.Result.{err_from_is_err_and}
use Rattle.std.proofs.lemmas.List.{map_push}
use Rattle.cm_lemmas.proofs.Lists.{drop_past, one_longer}
use Rattle.cm_bundle.specs.Trees.{export_tree, supply_tree}
use Rattle.cm_bundle.proofs.Counting.{room_one, room_next}
use Rattle.cm_bundle.proofs.Items.{no_export, next_here}
use Rattle.cm_bundle.proofs.ReadingLoops.{supplies_turn, supplies_fail, supplies_end}
use Rattle.cm_bundle.proofs.supplies.read_supplies.Goals as goal

pub returns-in_err-supply-clause-read : goal.returns-in_err-supply-clause-read
returns-in_err-supply-clause-read c =
    let p = err_from_is_err_and c.from_residual.result c.from_residual.ensures.1 in
    let l = c.loop-export in
    let n = next_here export_tree c.args.exports.now l.export-index no_export c.loop-export-test.true in
    let x = get_or c.args.exports.now l.export-index no_export in
    rw (p.1, p.2) (supplies_fail c.args.lead.now c.args.tail.now l.counts _ _ (export_tree x) (map supply_tree l.supplies.items) l.bytes.end l.bytes.rest.now c.in_err-supply.field-0.0 _ n c.in_err-supply.ensures.read l.invariant.0)

pub counted-counts-requires : goal.counted-counts-requires
counted-counts-requires c = room_one c.loop-export.counts _ c.loop-export.invariant.2 (omega (arith, c.loop-export-test.true))

pub loop-export-preserved : goal.loop-export-preserved
loop-export-preserved c =
    let l = c.loop-export in
    let n = next_here export_tree c.args.exports.now l.export-index no_export c.loop-export-test.true in
    let x = get_or c.args.exports.now l.export-index no_export in
    let pushed = ap (map supply_tree) c.in_ok-push.ensures.items ∙ map_push supply_tree l.supplies.items c.in_ok-supply.supply in (
      supplies_turn c.args.lead.now c.args.tail.now l.counts c.counted-counts.result _ _ (export_tree x) (map supply_tree l.supplies.items) _ (supply_tree c.in_ok-supply.supply) l.bytes.end c.read_supply.new.bytes.end l.bytes.rest.now c.read_supply.new.bytes.rest.now _ n c.counted-counts.ensures pushed c.in_ok-supply.ensures.end c.in_ok-supply.ensures.read l.invariant.0,
      c.in_ok-supply.ensures.end ∙ l.invariant.1,
      rw c.counted-counts.ensures (room_next l.counts x.sort _ _ l.invariant.2 (omega (arith, c.loop-export-test.true))),
      omega (arith, ap length c.in_ok-push.ensures.items, one_longer l.supplies.items c.in_ok-supply.supply, l.invariant.3),
    )

pub returns-clause-read : goal.returns-clause-read
returns-clause-read c =
    let l = c.loop-export in
    supplies_end c.args.lead.now c.args.tail.now l.counts _ (map supply_tree l.supplies.items) l.bytes.end l.bytes.rest.now _ (ap (map export_tree) (drop_past c.args.exports.now l.export-index (omega (arith, c.loop-export-test.false)))) l.invariant.0
