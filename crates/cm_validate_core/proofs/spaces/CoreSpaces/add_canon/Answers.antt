use Rattle.std.proofs.Common.{List, subst}
use Rattle.cm_binary_model.specs.declared.canons.CanonOption.{CanonOption}
use Rattle.cm_binary_model.specs.Trees.{lift}
use Rattle.cm_validate_model.specs.Items.{canon_item}
use Rattle.cm_validate_model.specs.Spaces.{after_item}
use Rattle.cm_validate_core.specs.CoreSpaces.{IsCoreOf}
use Rattle.cm_validate_core.proofs.spaces.CoreSpaces.add_canon.Goals as goal

pub returns-in-Lift-clause-added : goal.returns-in-Lift-clause-added
returns-in-Lift-clause-added c = λ made s r e.
    rw (c.in-Lift.is)
    (subst (λ (os : List CanonOption). IsCoreOf made c.add_lift.new.self (after_item s (canon_item (lift c.in-Lift.core_func os c.in-Lift.ty)))) c.deref.ensures.value
    (c.add_lift.ensures.added made s c.in-Lift.core_func c.in-Lift.ty r))
