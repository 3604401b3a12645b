use Rattle.std.proofs.Common.{◌≡◌, ◌++◌, ◌≤◌, ◌∙◌, None, ap, append-nil, arith, length, map, subst, sym}
use Rattle.std.proofs.lemmas.List.{take_all}
use Rattle.cm_types_arena.specs.Listed.{externs_listed}
use Rattle.cm_wit_conforms.specs.Places.{extern_names, place_in}
use Rattle.cm_wit_conforms.specs.Comparisons.{entries_from}
use Rattle.cm_wit_conforms.specs.Views.{other, own}
use Rattle.cm_wit_conforms.specs.Walks.{IsWalked}
use Rattle.cm_wit_conforms.proofs.TakenLaws.{externs_more}
use Rattle.cm_wit_conforms.proofs.WalkLaws.{all_placed}
use Rattle.cm_wit_conforms.proofs.lists.add_externs.Goals as goal

pub loop-place-init : goal.loop-place-init
loop-place-init c = (λ h w es k. subst (λ l. IsWalked h w l c.args.walk.now) (sym (append-nil es)) k, c.new-kept.ensures c.args.lists.have.now)

pub loop-place-preserved : goal.loop-place-preserved
loop-place-preserved c = (
  λ h w es k.
      let lists = c.args.lists in
      let mine = own lists.list h w in
      let theirs = other lists.list h w in
      let externs = own lists.list lists.have.now lists.world.now in
      let others = other lists.list lists.have.now lists.world.now in
      let places : c.deref-found-items.result.now ≡ map (place_in (extern_names theirs others)) (extern_names mine externs) =
      c.deref-found-items.ensures.value ∙ (c.in_ok-places.ensures mine theirs
      ∙ (ap (λ o. map (place_in (extern_names theirs o)) (extern_names mine c.own.result.now)) c.other.ensures
      ∙ ap (λ e. map (place_in (extern_names theirs others)) (extern_names mine e)) c.own.ensures)) in
      subst (λ l. IsWalked h w l c.add_extern.new.walk)
      (sym (externs_more mine theirs lists.list es c.loop-place.place externs others c.deref-found-items.result.now None c.loop-place-test.true places))
      (c.in_ok-add_extern.ensures.walked h w _ (c.loop-place.invariant.0 h w es k)),
  c.in_ok-add_extern.ensures.kept,
)

pub returns : goal.returns
returns c = λ h w es k.
    let lists = c.args.lists in
    let mine = own lists.list h w in
    let theirs = other lists.list h w in
    let externs = own lists.list lists.have.now lists.world.now in
    let others = other lists.list lists.have.now lists.world.now in
    let listed = externs_listed mine externs in
    let places : c.deref-found-items.result.now ≡ map (place_in (extern_names theirs c.other.result.now)) (extern_names mine externs) =
    c.deref-found-items.ensures.value ∙ (c.in_ok-places.ensures mine theirs ∙ ap (λ e. map (place_in (extern_names theirs c.other.result.now)) (extern_names mine e)) c.own.ensures) in
    let as_many : length c.deref-found-items.result.now ≡ length listed = all_placed (λ e. e.name) (place_in (extern_names theirs c.other.result.now)) listed c.deref-found-items.result.now places in
    let end : length listed ≤ c.loop-place.place = omega (arith, as_many, c.loop-place-test.false) in
    subst (λ l. IsWalked h w (es ++ entries_from lists.list (externs_listed theirs others) 0 l) c.loop-place.walk) (take_all c.loop-place.place listed end) (c.loop-place.invariant.0 h w es k)
