use Rattle.std.proofs.Common.{◌≡◌, ◌<◌, ◌∙◌, map, length, get_or, refl, sym}
use Rattle.cm_layout_placed.specs.Kinds.{kinds_at}
use Rattle.cm_layout_placed.proofs.KindLaws.{kinds_get, join_step}
use Rattle.cm_layout_placed.proofs.kinds.joined_kinds.Goals as goal
use Rattle.cm_lemmas.proofs.Lists.{all_at}

pub loop-place-preserved : goal.loop-place-preserved
loop-place-preserved c =
    let kss = map (λ v. v.items) c.args.kinds.now in
    let i = c.loop-place.place-index in
    let ps = c.args.places.now in
    let p = get_or ps i 0 in
    let there : p < length c.args.kinds.now = all_at (λ q. q < length c.args.kinds.now) ps i c.requires c.loop-place-test.true in
    let got : c.deref.result.now ≡ kinds_at kss p = c.deref.ensures.value ∙ sym (kinds_get c.args.kinds.now p c.index-kinds-place.result there c.index-kinds-place.is) in
    c.in_ok-join_kinds.ensures ∙ join_step (kinds_at kss) ps i p c.deref.result.now c.loop-place.all.items c.loop-place-test.true refl got c.loop-place.invariant
