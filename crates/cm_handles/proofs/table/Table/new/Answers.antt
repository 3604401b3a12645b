use Rattle.std.proofs.Common.{sym, subst}
use Rattle.cm_handles.specs.Slots.{IsThreaded}
use Rattle.cm_handles.proofs.ThreadedSlots.{linked_none, handles-none}
use Rattle.cm_handles.proofs.TableSteps.{sound_table}
use Rattle.cm_handles.proofs.table.Table.new.Goals as goal

pub invariant_of-result : goal.invariant_of-result
invariant_of-result c = subst (λ es. IsThreaded es 0 0) (sym c.new.ensures.items) linked_none

pub returns-clause-empty : goal.returns-clause-empty
returns-clause-empty c = rw c.new.ensures.items handles-none

pub returns-clause-sound : goal.returns-clause-sound
returns-clause-sound c = sound_table _ _ _ _ (subst (λ es. IsThreaded es 0 0) (sym c.new.ensures.items) linked_none)
