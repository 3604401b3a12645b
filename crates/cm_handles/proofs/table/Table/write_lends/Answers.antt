use Rattle.cm_handles.proofs.TableSteps.{lends_step, sound_table}
use Rattle.cm_handles.proofs.table.Table.write_lends.Goals as goal

pub invariant_of-self : goal.invariant_of-self
invariant_of-self c = (lends_step c.self.inside.slots.items c.self.inside.first c.self.inside.free _ c.args.index c.args.lends c.index_mut.result.now c.set_lends.new.self c.args.self.now c.index_mut.ensures.value c.set_lends.ensures c.self.invariant c.self.view_is c.requires).0

pub returns-clause-handles : goal.returns-clause-handles
returns-clause-handles c = (lends_step c.self.inside.slots.items c.self.inside.first c.self.inside.free _ c.args.index c.args.lends c.index_mut.result.now c.set_lends.new.self c.args.self.now c.index_mut.ensures.value c.set_lends.ensures c.self.invariant c.self.view_is c.requires).1

pub returns-clause-sound : goal.returns-clause-sound
returns-clause-sound c = sound_table _ _ _ _ (invariant_of-self c)
