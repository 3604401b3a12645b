use Rattle.std.proofs.Common.{◌∙◌, map, sym}
use Rattle.cm_validate_instances.specs.Names.{is_named_well}
use Rattle.cm_validate_instances.specs.ItemSketches.{sketch_named}
use Rattle.cm_validate_instances.proofs.ItemNameLaws.{fails_here, passes_on}
use Rattle.cm_validate_instances.proofs.names.are_all_well_named.Goals as goal

pub returns-then-not-is_named_well : goal.returns-then-not-is_named_well
returns-then-not-is_named_well c =
    let items = map sketch_named c.args.items.now in
    fails_here (is_named_well items) sketch_named c.args.items.now c.loop-item.item-index c.item-item.result c.loop-item-test.true c.item-item.is _
    (sym c.if-not-is_named_well.true ∙ c.is_named_well.ensures items c.in_ok-resources.ensures)
    c.loop-item.invariant

pub loop-item-preserved : goal.loop-item-preserved
loop-item-preserved c =
    let items = map sketch_named c.args.items.now in
    passes_on (is_named_well items) sketch_named c.args.items.now c.loop-item.item-index c.item-item.result c.loop-item-test.true c.item-item.is _
    (sym c.if-not-is_named_well.false ∙ c.is_named_well.ensures items c.in_ok-resources.ensures)
    c.loop-item.invariant
