use Rattle.std.proofs.Common.{◌≡◌, Some, None, arith, length}
use Rattle.cm_types_arena.specs.Listed.{items_listed}
use Rattle.cm_wit_conforms.specs.Places.{item_names, place_in}
use Rattle.cm_wit_conforms.specs.Views.{entry_of, other, own}
use Rattle.cm_wit_conforms.specs.Walks.{IsWalked, facing_entries}
use Rattle.cm_wit_conforms.proofs.PlacedLaws.{entries_long, placed_found}
use Rattle.cm_wit_conforms.proofs.WalkLaws.{all_placed}
use Rattle.cm_wit_conforms.proofs.TakenLaws.{entry_is, step_end, step_none, step_some}
use Rattle.cm_wit_conforms.proofs.walk.Walk.add_placed.Goals as goal
use Rattle.cm_wit_conforms.proofs.walk.Walk.add_placed.Goals.{in-Some+in_ok-add, in_default}

pub compared_at-requires : goal.compared_at-requires
compared_at-requires c = λ t u. placed_found (item_names t c.args.facing.items) (item_names u c.args.facing.others) c.args.places.now c.loop-number.number c.loop-number-test.true (c.requires t u)

pub loop-number-preserved : goal.loop-number-preserved
loop-number-preserved c = λ h w es k.
    let n = c.loop-number.number in
    let all = facing_entries h w c.args.facing in
    let before = c.loop-number.invariant h w es k in
    let view = entry_of h w in
    let shown = c.compared_at.ensures h w in
    elim c.match-compared_at.branch [
      | in-Some+in_ok-add b ↦ step_some (IsWalked h w) es all n (view b.in-Some.each) c.match-compared_at.self b.add.new.self (entry_is view c.compared_at.result (Some b.in-Some.each) _ shown b.in-Some.is) b.self-is (b.in_ok-add.ensures h w _ before)
      | in_default b ↦ step_none (IsWalked h w) es all n c.match-compared_at.self c.loop-number.self (entry_is view c.compared_at.result None _ shown b.in_default.is) b.self-is before
    ]

pub returns : goal.returns
returns c = λ h w es k.
    let f = c.args.facing in
    let mine = own f.list h w in
    let theirs = other f.list h w in
    let all = facing_entries h w f in
    let long : length all ≡ length (items_listed mine f.items) = entries_long mine theirs f.list f.place f.items f.others in
    let places : length c.args.places.now ≡ length (items_listed mine f.items) = all_placed (λ i. i.name) (place_in (item_names theirs f.others)) (items_listed mine f.items) c.args.places.now (c.requires mine theirs) in
    step_end (IsWalked h w) es all c.loop-number.number c.loop-number.self (omega (arith, long, places, c.loop-number-test.false)) (c.loop-number.invariant h w es k)
