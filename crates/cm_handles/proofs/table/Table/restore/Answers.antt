use Rattle.std.proofs.Common.{◌-◌, ◌∙◌, ap, subst, sym, arith, Some, length-set}
use Rattle.cm_handles.specs.Handles.{TableState, IsSoundHandles, Changes, after_restore}
use Rattle.cm_handles.proofs.TableSteps.{freed_slot, freed_read, freed_empty, restored_step, sound_table, Changes-after_restore, after_restore-after_release}
use Rattle.cm_handles.proofs.table.Table.restore.Goals as goal

pub overflow_sub-index : goal.overflow_sub-index
overflow_sub-index c = (freed_slot c.self.inside.slots.items c.self.inside.first c.self.inside.free _ c.args.index c.args.self.now c.self.invariant c.self.view_is c.requires).0

pub index-requires : goal.index-requires
index-requires c =
    let here = freed_slot c.self.inside.slots.items c.self.inside.first c.self.inside.free _ c.args.index c.args.self.now c.self.invariant c.self.view_is c.requires in
    omega (arith, here.1, c.self.inside.slots.ok.0)

pub unreachable-requires : goal.unreachable-requires
unreachable-requires c =
    let empty = freed_empty c.self.inside.slots.items c.self.inside.first c.self.inside.free _ c.args.index c.index.result.now c.args.self.now c.self.invariant c.self.view_is c.requires c.index.ensures in
    c.in_default.not-Free empty.0 empty.1

pub overflow_sub-index-2 : goal.overflow_sub-index-2
overflow_sub-index-2 c = (freed_slot c.self.inside.slots.items c.self.inside.first c.self.inside.free _ c.args.index c.args.self.now c.self.invariant c.self.view_is c.requires).0

pub index_mut-requires : goal.index_mut-requires
index_mut-requires c =
    let here = freed_slot c.self.inside.slots.items c.self.inside.first c.self.inside.free _ c.args.index c.args.self.now c.self.invariant c.self.view_is c.requires in
    omega (arith, here.1, c.self.inside.slots.ok.0)

pub overflow_sub-self : goal.overflow_sub-self
overflow_sub-self c = (freed_slot c.self.inside.slots.items c.self.inside.first c.self.inside.free _ c.args.index c.args.self.now c.self.invariant c.self.view_is c.requires).2

pub invariant_of-self : goal.invariant_of-self
invariant_of-self c =
    let es = c.self.inside.slots.items in
    let slot = freed_read es c.self.inside.first c.self.inside.free _ c.args.index c.index.result.now c.args.self.now c.self.invariant c.self.view_is c.requires c.index.ensures ∙ ap (λ x. Some x) c.in-Free.is in
    (restored_step es c.self.inside.first c.self.inside.free _ c.args.index c.in-Free.next c.args.handle c.of.result c.args.self.now c.of.ensures c.self.invariant c.self.view_is c.requires slot).0

pub returns-clause-handles : goal.returns-clause-handles
returns-clause-handles c =
    let es = c.self.inside.slots.items in
    let slot = freed_read es c.self.inside.first c.self.inside.free _ c.args.index c.index.result.now c.args.self.now c.self.invariant c.self.view_is c.requires c.index.ensures ∙ ap (λ x. Some x) c.in-Free.is in
    (restored_step es c.self.inside.first c.self.inside.free _ c.args.index c.in-Free.next c.args.handle c.of.result c.args.self.now c.of.ensures c.self.invariant c.self.view_is c.requires slot).1

pub returns-clause-changes : goal.returns-clause-changes
returns-clause-changes c =
    let t = c.args.self.now.handles in
    let sound : IsSoundHandles t = subst (λ (s : TableState). IsSoundHandles s.handles) c.self.view_is c.self.invariant.sound in
    subst (λ n. Changes t n c.args.index (Some c.args.handle)) (sym (returns-clause-handles c)) (Changes-after_restore t c.args.index c.args.handle sound c.requires)

pub returns-clause-undoes : goal.returns-clause-undoes
returns-clause-undoes c before stands was =
    returns-clause-handles c ∙ (ap (λ t. after_restore t c.args.index c.args.handle) was ∙ after_restore-after_release before c.args.index c.args.handle stands)

pub returns-clause-room : goal.returns-clause-room
returns-clause-room c =
    let es = c.self.inside.slots.items in
    let here = freed_slot es c.self.inside.first c.self.inside.free _ c.args.index c.args.self.now c.self.invariant c.self.view_is c.requires in
    omega (arith, here.2, length-set es (c.args.index - 1) c.of.result, ap (λ (s : TableState). s.room) c.self.view_is)

pub returns-clause-sound : goal.returns-clause-sound
returns-clause-sound c = sound_table _ _ _ _ (invariant_of-self c)
