use Rattle.std.proofs.Common.{rules, ◌≡◌, ◌∙◌, ◌<◌, get_or, length}
use Rattle.cm_abi_programs.proofs.HeldLaws.{all_at, gather_end, gather_next}
use Rattle.cm_abi_programs.proofs.gathering.gather.Goals as goal

pub bounds-lists-place : goal.bounds-lists-place
bounds-lists-place g c = all_at (λ p. p < length c.args.lists.now) c.args.places.now c.loop-place.place-index c.loop-place-test.true c.requires

pub loop-place-preserved : goal.loop-place-preserved
loop-place-preserved g c =
    let there : get_or c.args.places.now c.loop-place.place-index 0 < length c.args.lists.now = all_at (λ p. p < length c.args.lists.now) c.args.places.now c.loop-place.place-index c.loop-place-test.true c.requires in
    let copy : c.in_ok-clone.field-0.value ≡ c.index-lists-place.result.value = search rules in
    gather_next c.args.lists.now c.args.places.now c.loop-place.place-index c.index-lists-place.result c.in_ok-clone.field-0 c.loop-place.held.items c.push.new.self.items c.loop-place-test.true there c.index-lists-place.is copy c.in_ok-push.ensures.items
    ∙ c.loop-place.invariant

pub returns : goal.returns
returns g c = gather_end c.args.lists.now c.args.places.now c.loop-place.place-index c.loop-place.held.items c.loop-place-test.false ∙ c.loop-place.invariant
