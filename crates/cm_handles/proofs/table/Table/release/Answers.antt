use Rattle.cm_handles.proofs.TableSteps.{released_step, sound_table}
use Rattle.cm_handles.proofs.table.Table.release.Goals as goal

pub invariant_of-self : goal.invariant_of-self
invariant_of-self c = (released_step c.self.inside.slots.items c.self.inside.first c.self.inside.free _ c.args.index c.args.self.now c.self.invariant c.self.view_is c.requires).0

pub returns-clause-handles : goal.returns-clause-handles
returns-clause-handles c = (released_step c.self.inside.slots.items c.self.inside.first c.self.inside.free _ c.args.index c.args.self.now c.self.invariant c.self.view_is c.requires).1

pub returns-clause-sound : goal.returns-clause-sound
returns-clause-sound c = sound_table _ _ _ _ (invariant_of-self c)
