use Rattle.std.proofs.Common.{◌≡◌, ◌∙◌, List, ap, sym}
use Rattle.cm_names.specs.Keys.{Key, first_key}
use Rattle.cm_validate_functions.proofs.KeyLaws.{found_item}
use Rattle.cm_validate_functions.proofs.LeadingLaws.{import_there, item_none, item_some, number_found}
use Rattle.cm_validate_functions.proofs.leading.Names.lowered_item.Goals as goal

pub returns-in-None : goal.returns-in-None
returns-in-None c = λ s are. sym (item_none s c.args.interface.now c.args.name.now (sym (number_found s c.args.self.now c.args.interface.now are) ∙ sym c.find.ensures ∙ c.in-None.is))

pub returns-in-Some : goal.returns-in-Some
returns-in-Some c = λ s are.
    let number = sym (number_found s c.args.self.now c.args.interface.now are) ∙ sym c.find.ensures ∙ c.in-Some.is in
    c.find-in-Some.ensures
    ∙ ap (λ (ks : List Key). first_key ks c.in-Some.import c.args.name.now) are.items_are
    ∙ found_item s.imports c.in-Some.import c.args.name.now s.core_funcs (import_there s c.args.interface.now c.in-Some.import number)
    ∙ sym (item_some s c.args.interface.now c.args.name.now c.in-Some.import number)
