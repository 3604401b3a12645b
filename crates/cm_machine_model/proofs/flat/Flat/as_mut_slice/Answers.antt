use Rattle.std.proofs.Common.{List, refl, arith, rules}
use Rattle.cm_types.specs.declared.core_value.CoreValue.{CoreValue}
use Rattle.cm_machine_model.proofs.Refilled.{take-refill}
use Rattle.cm_machine_model.proofs.flat.Flat.as_mut_slice.Goals as goal

pub returns : goal.returns
returns c =
    let inside = c.self.inside in
    let refilled = λ (w : List CoreValue).
    take-refill inside.count inside.values.xs w (omega arith) in (
      (refl, λ w. rw (← c.self.view_is) (refilled w)),
      record { writes_back = tt; value = search rules },
    )
