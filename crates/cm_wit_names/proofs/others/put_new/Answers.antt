use Rattle.std.proofs.Common.{rules, ◌≡◌, ◌∙◌, Some, ap, subst, sym, true, false}
use Rattle.std.specs.BTreeMap.{IsUnchanged, Updates}
use Rattle.std.specs.BTreeMap.Entry.{map_with_value}
use Rattle.cm_wit_names.specs.Pairs.{pair_cmp}
use Rattle.cm_wit_names.proofs.FirstLaws.{put_law}
use Rattle.cm_wit_names.proofs.others.put_new.Goals as goal
use Rattle.cm_lemmas.proofs.Bools.{true_not_false}

pub returns-in-Vacant-clause-noted : goal.returns-in-Vacant-clause-noted
returns-in-Vacant-clause-noted c =
    let old = c.args.others.now in
    let place = c.args.place in
    let new = c.others-in-Vacant-2-1.given.0 in
    let written = c.others-in-Vacant-2-1.given.1 (search rules) in
    let is : new ≡ map_with_value c.in_ok-slot.field-0 place = written ∙ (ap (λ e. map_with_value e c.insert.result.now) (sym c.in-Vacant.is) ∙ ap (λ w. map_with_value c.in_ok-slot.field-0 w) c.insert.ensures.value) in
    put_law true old new c.args.index c.args.number place (search rules)
    (λ t. subst (λ m. Updates pair_cmp old m (c.args.index, c.args.number) (Some place)) (sym is) (c.in_ok-slot.ensures.update.0 place))
    (λ f. absurd (true_not_false f))

pub returns-in-Occupied-clause-noted : goal.returns-in-Occupied-clause-noted
returns-in-Occupied-clause-noted c =
    let old = c.args.others.now in
    let new = c.others-in-Occupied-3-1.given.0 in
    let kept : IsUnchanged old new = search rules in
    put_law false old new c.args.index c.args.number c.args.place (search rules) (λ t. absurd (true_not_false (sym t))) (λ f. kept)
