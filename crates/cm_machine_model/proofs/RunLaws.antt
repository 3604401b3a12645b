-- Laws of what Run defines, for this crate and those above it.
use Rattle.std.proofs.Common.{List, Option, Bool, ◌≡◌, None, [], Some, false, refl, true, sym, ◌∷◌}
use Rattle.std.proofs.lemmas.Option.{none-some}
use Rattle.cm_machine_model.specs.Run.{misuse_by_stack, misuse_by_closed}
use Rattle.cm_machine_model.specs.declared.event.Misuse.TheVariants as misuse
use Rattle.cm_machine_model.specs.declared.frame.Frame.{Frame}

-- a begin that is accepted
pub may_begin : (fs : List Frame) (o : Option Bool) → misuse_by_stack fs (misuse_by_closed o) ≡ None → (fs ≡ []) × (o ≡ Some false)
may_begin [] (Some false) e = (refl, refl)
may_begin [] (Some true) e = absurd (none-some misuse.Closed (sym e))
may_begin [] None e = absurd (none-some misuse.NoInstance (sym e))
may_begin (f ∷ fs) o e = absurd (none-some misuse.Busy (sym e))
