use Rattle.std.proofs.Common.{◌∙◌, refl, sym}
use Rattle.cm_match_serving.specs.Sets.{set_of, spaces_of_all}
use Rattle.huxarte_c_components.proofs.ChoiceLaws.{no_items, set_plain}
use Rattle.huxarte_c_components.proofs.choosing.link_by_numbers.Goals as goal

pub returns-in-Err-clause-refused : goal.returns-in-Err-clause-refused
returns-in-Err-clause-refused c =
    let cs = c.args.components.items in
    let set = set_of cs in
    (set, set_plain (spaces_of_all cs) c.args.places.now c.args.choices.now set (no_items c.args.places.now (sym c.is_empty.ensures ∙ c.if-not-is_empty.false)) (no_items c.args.choices.now (sym c.is_empty-else-not-is_empty.ensures ∙ c.if-not-is_empty-2.false)) refl, c.in-Err.ensures.refused)
