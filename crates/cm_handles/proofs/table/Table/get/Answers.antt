use Rattle.std.proofs.Common.{subst}
use Rattle.cm_handles.specs.Handles.{IsSoundTable}
use Rattle.cm_handles.proofs.TableSteps.{sound_table}
use Rattle.cm_handles.proofs.table.Table.get.Goals as goal

pub returns-clause-sound : goal.returns-clause-sound
returns-clause-sound c = subst (λ s. IsSoundTable s) c.self.view_is (sound_table _ _ _ _ c.self.invariant)
