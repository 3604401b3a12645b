use Rattle.std.proofs.Common.{refl}
use Rattle.cm_match.specs.Linked.{set_in}
use Rattle.cm_match_model.specs.declared.sight.Choices.{Choices}
use Rattle.cm_match_serving.specs.Sets.{set_by, spaces_of_all}
use Rattle.huxarte_c_components.proofs.ChoiceLaws.{set_chosen}
use Rattle.huxarte_c_components.proofs.choosing.link_chosen.Goals as goal

pub returns-in-Ok-link_by-clause-set : goal.returns-in-Ok-link_by-clause-set
returns-in-Ok-link_by-clause-set c =
    let chosen : Choices = record { places = c.in-Ok.places; links = c.in_ok-links.links } in
    set_chosen (spaces_of_all c.args.components.items) c.args.places.now c.args.choices.now chosen (set_in c.in-Ok-link_by.linked) c.requires.some c.in-Ok.ensures (rw c.deref.ensures.value at c.in_ok-links.ensures.chosen) (rw c.deref.ensures.value at c.in_ok-links.ensures.placed) c.in-Ok-link_by.ensures.set

pub returns-in-Err-clause-refused : goal.returns-in-Err-clause-refused
returns-in-Err-clause-refused c =
    let chosen : Choices = record { places = c.in-Ok.places; links = c.in_ok-links.links } in
    let cs = c.args.components.items in
    let set = set_by cs chosen in
    (set, set_chosen (spaces_of_all cs) c.args.places.now c.args.choices.now chosen set c.requires.some c.in-Ok.ensures (rw c.deref.ensures.value at c.in_ok-links.ensures.chosen) (rw c.deref.ensures.value at c.in_ok-links.ensures.placed) refl, c.in-Err.ensures.refused)
