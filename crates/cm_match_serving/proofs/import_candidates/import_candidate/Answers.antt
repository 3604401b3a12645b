use Rattle.std.proofs.Common.{◌≡◌, ◌∙◌, Some, None, sym, ap}
use Rattle.cm_match_model.specs.Fitting.{only}
use Rattle.cm_match_model.specs.Fitting as fitting
use Rattle.cm_match_model.specs.Sights.{chosen_export, link_in}
use Rattle.cm_match_serving.specs.Candidates.{seen_exports}
use Rattle.cm_match_serving.specs.Sets.{spaces_of_all}
use Rattle.cm_match_serving.proofs.Seeing.{without_link}
use Rattle.cm_match_serving.proofs.import_candidates.import_candidate.Goals as goal
use Rattle.cm_lemmas.proofs.Results.{if_ok_more}

pub returns-in-Some : goal.returns-in-Some
returns-in-Some c =
    let cs = c.args.components.now in
    let at = c.args.importer in
    let n = c.args.import in
    let places = c.args.choices.now.places.items in
    let links = c.args.choices.now.links.items in
    let l = c.in-Some.link in
    let is : link_in links at n ≡ Some l = sym c.in-Some.ensures in
    if_ok_more c.chosen_candidate.result _ _ c.chosen_candidate.ensures (λ k h has x named.
    h
    ∙ ap (λ name. only (fitting.candidates (chosen_export (spaces_of_all cs) at l) name)) (sym named)
    ∙ ap only (sym (c.a_chosen_link_is_the_only_candidate.ensures (spaces_of_all cs) places (link_in links) at n x l is)))

pub returns-in-None : goal.returns-in-None
returns-in-None c =
    let cs = c.args.components.now in
    let at = c.args.importer in
    let n = c.args.import in
    let places = c.args.choices.now.places.items in
    let links = c.args.choices.now.links.items in
    let is : link_in links at n ≡ None = sym c.in-None.ensures in
    let seen = seen_exports cs c.args.choices.now at in
    if_ok_more c.candidate.result _ _ c.candidate.ensures (λ k h has x named.
    h seen has
    ∙ ap (λ name. only (fitting.candidates seen name)) (sym named)
    ∙ ap only (sym (without_link c.groups_see_what_stands_before.ensures (spaces_of_all cs) places (link_in links) at n x is)))
