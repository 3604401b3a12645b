use Rattle.std.proofs.Common.{ap, sym, ◌∙◌}
use Rattle.cm_validate_model.specs.Options.{guest_broken}
use Rattle.cm_validate_model.specs.Reasons.{if_found, least}
use Rattle.cm_validate_spaces.proofs.spaces.IndexSpaces.destructor_fault.Goals as goal

pub returns-in-Some : goal.returns-in-Some
returns-in-Some c = λ tell s r. c.guest_fault.ensures tell s r ∙ ap (λ d. least (if_found (guest_broken s.core_funcs) d)) (sym c.in-Some.is)
