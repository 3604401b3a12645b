use Rattle.std.proofs.Common.{◌∙◌, ap, arith, get_or, map, refl, subst, sym, take}
use Rattle.std.proofs.lemmas.Option.{slice_get-get_or}
use Rattle.std.specs.List.{find}
use Rattle.cm_match_model.specs.Imports.{import_in}
use Rattle.cm_match_serving.specs.Sets.{spaces_of_all}
use Rattle.huxarte_c_components.specs.Choosing.{is_for}
use Rattle.huxarte_c_components.proofs.ChoiceLaws.{chosen_more, no_place, place_is, no_choice, placed_more}
use Rattle.huxarte_c_components.proofs.choosing.links_of.Goals as goal

pub returns-then-not-choose-clause-refused : goal.returns-then-not-choose-clause-refused
returns-then-not-choose-clause-refused c =
    let set = spaces_of_all c.args.components.now in
    let xs = c.args.choices.now in
    let n = c.loop-at.at in
    let x = get_or xs n no_choice in record {
      choice = x;
      there = slice_get-get_or xs n no_choice c.loop-at-test.true;
      before = c.loop-at.invariant.0;
      misplaced = no_place (import_in set x.importer x.import_at) (find (is_for x.importer x.import_at) (take n xs))
          (λ e. c.choose.ensures.refused c.if-not-choose.true (c.loop-at.invariant.1 x.importer x.import_at ∙ e));
    }

pub loop-at-preserved : goal.loop-at-preserved
loop-at-preserved c =
    let set = spaces_of_all c.args.components.now in
    let xs = c.args.choices.now in
    let n = c.loop-at.at in
    let x = get_or xs n no_choice in
    let there = slice_get-get_or xs n no_choice c.loop-at-test.true in
    let free = c.choose.ensures.chosen c.if-not-choose.false in (
      placed_more set xs n x there c.loop-at.invariant.0
          (place_is (import_in set x.importer x.import_at) (find (is_for x.importer x.import_at) (take n xs)) (sym (c.loop-at.invariant.1 x.importer x.import_at) ∙ free)),
      chosen_more set xs c.loop-at.rows.items c.choose.new.rows.items n x there c.loop-at.invariant.1 free (c.choose.ensures.others c.if-not-choose.false),
    )
