use Rattle.std.proofs.Common.{◌≡◌, ◌++◌, ◌∙◌, ap, arith, length, map}
use Rattle.std.proofs.lemmas.List.{length-map, take_all}
use Rattle.cm_types_arena.specs.Listed.{items_listed}
use Rattle.cm_hux_diff.specs.Views.{entry_view, instance_entries}
use Rattle.cm_hux_diff.proofs.Entries.{all_placed, entries_long, placed_found}
use Rattle.cm_hux_diff.proofs.Places.{shown_next}
use Rattle.cm_hux_diff.proofs.walk.Walk.add_placed.Goals as goal

pub add_item-requires : goal.add_item-requires
add_item-requires c = λ t u. placed_found t u c.args.two.wanted c.args.two.offered c.args.places.now c.loop-number.number c.loop-number-test.true (c.requires t u)

pub loop-number-preserved : goal.loop-number-preserved
loop-number-preserved c = λ w o. shown_next _ (instance_entries w o c.args.two) c.loop-number.number _ _ (c.loop-number.invariant w o) (c.in_ok-add_item.ensures w o)

pub returns : goal.returns
returns c = λ w o.
    let two = c.args.two in
    let all = instance_entries w o two in
    let long : length all ≡ length (items_listed w two.wanted) = entries_long w o two.place two.wanted two.offered in
    let places : length c.args.places.now ≡ length (items_listed w two.wanted) = all_placed w o two.wanted two.offered c.args.places.now (c.requires w o) in
    c.loop-number.invariant w o ∙ ap (λ l. map (entry_view w o) c.args.self.now.entries.items ++ l) (take_all c.loop-number.number all (omega (arith, long, places, c.loop-number-test.false)))
