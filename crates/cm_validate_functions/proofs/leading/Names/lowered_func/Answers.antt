use Rattle.std.proofs.Common.{◌≡◌, ◌∙◌, List, [], ap, sym}
use Rattle.cm_names.specs.Keys.{Key, first_key}
use Rattle.cm_validate_functions.specs.Leading.{lowered_import}
use Rattle.cm_validate_functions.proofs.KeyLaws.{found_by_number}
use Rattle.cm_validate_functions.proofs.LeadingLaws.{lowered_none, lowered_some, number_found}
use Rattle.cm_validate_functions.proofs.leading.Names.lowered_func.Goals as goal

pub returns-in-None : goal.returns-in-None
returns-in-None c = λ s are. sym (lowered_none s c.args.name.now (sym (number_found s c.args.self.now c.args.name.now are) ∙ sym c.find.ensures ∙ c.in-None.is))

pub returns-in-Some : goal.returns-in-Some
returns-in-Some c = λ s are.
    c.find-in-Some.ensures
    ∙ ap (λ (ks : List Key). first_key ks c.in-Some.import []) are.lowered_are
    ∙ found_by_number lowered_import c.in-Some.import s.core_funcs
    ∙ sym (lowered_some s c.args.name.now c.in-Some.import (sym (number_found s c.args.self.now c.args.name.now are) ∙ sym c.find.ensures ∙ c.in-Some.is))
