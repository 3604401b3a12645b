use Rattle.std.proofs.Common.{sym, subst, arith, refl}
use Rattle.cm_handles.specs.Handles.{IsSoundTable}
use Rattle.cm_handles.specs.Slots.{IsThreaded}
use Rattle.cm_handles.proofs.TableSteps.{left_of, sound_table}
use Rattle.cm_handles.proofs.table.Table.reserve.Goals as goal

pub returns-then-additional-free-clause-full : goal.returns-then-additional-free-clause-full
returns-then-additional-free-clause-full c =
    (λ is. omega (arith, left_of c.self.inside.slots.items c.self.inside.first c.self.inside.free _ c.args.self.now c.self.view_is, c.self.inside.slots.ok.0), λ less. refl)

pub returns-then-additional-free-clause-no_other : goal.returns-then-additional-free-clause-no_other
returns-then-additional-free-clause-no_other c enough =
    absurd (omega (arith, left_of c.self.inside.slots.items c.self.inside.first c.self.inside.free _ c.args.self.now c.self.view_is, c.self.inside.slots.ok.0))

pub returns-then-additional-free-clause-sound : goal.returns-then-additional-free-clause-sound
returns-then-additional-free-clause-sound c = subst (λ s. IsSoundTable s) c.self.view_is (sound_table _ _ _ _ c.self.invariant)

pub returns-in_default-clause-full : goal.returns-in_default-clause-full
returns-in_default-clause-full c =
    (λ is. cc, λ less. absurd (omega (arith, left_of c.self.inside.slots.items c.self.inside.first c.self.inside.free _ c.args.self.now c.self.view_is, c.self.inside.slots.ok.0)))

pub returns-in_default-clause-sound : goal.returns-in_default-clause-sound
returns-in_default-clause-sound c =
    sound_table _ _ _ _ (subst (λ es. IsThreaded es c.self.inside.first c.self.inside.free) (sym c.reserve.ensures.items) c.self.invariant)

pub returns-clause-full : goal.returns-clause-full
returns-clause-full c =
    (λ is. cc, λ less. absurd (omega (arith, left_of c.self.inside.slots.items c.self.inside.first c.self.inside.free _ c.args.self.now c.self.view_is, c.self.inside.slots.ok.0)))

pub returns-clause-sound : goal.returns-clause-sound
returns-clause-sound c =
    sound_table _ _ _ _ (subst (λ es. IsThreaded es c.self.inside.first c.self.inside.free) (sym c.reserve.ensures.items) c.self.invariant)
