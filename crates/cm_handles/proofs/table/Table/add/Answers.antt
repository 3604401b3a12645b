use Rattle.std.proofs.Common.{◌∙◌, ap, sym, subst, arith, Some}
use Rattle.cm_handles.specs.Handles.{TableState, Changes, handle_at, IsSoundHandles}
use Rattle.cm_handles.proofs.ThreadedSlots.{length-thread}
use Rattle.cm_handles.proofs.TableSteps.{freed_first, next-freed, after_add-freed, left_of, freed_within}
use Rattle.cm_handles.proofs.table.Table.add.Goals as goal
use Rattle.cm_lemmas.proofs.Lists.{empty_list}

pub append-requires : goal.append-requires
append-requires c =
    sym (ap (λ (s : TableState). s.handles.freed) c.self.view_is) ∙ empty_list _ (omega (arith, length-thread c.self.inside.free c.self.inside.slots.items c.self.inside.first))

pub restore-requires : goal.restore-requires
restore-requires c = freed_first c.self.inside.slots.items c.self.inside.first c.self.inside.free _ c.args.self.now c.self.view_is (omega arith)

pub returns-clause-index : goal.returns-clause-index
returns-clause-index c =
    let freed = freed_first c.self.inside.slots.items c.self.inside.first c.self.inside.free _ c.args.self.now c.self.view_is (omega arith) in
    sym (next-freed c.args.self.now.handles c.self.inside.first freed)

pub returns-clause-handles : goal.returns-clause-handles
returns-clause-handles c =
    let t = c.args.self.now.handles in
    let freed = freed_first c.self.inside.slots.items c.self.inside.first c.self.inside.free _ c.args.self.now c.self.view_is (omega arith) in
    c.restore.ensures.handles ∙ sym (after_add-freed t.slots t.freed c.self.inside.first c.args.handle freed)

pub returns-clause-changes : goal.returns-clause-changes
returns-clause-changes c = subst (λ i. Changes c.args.self.now.handles c.restore.new.self.handles i (Some c.args.handle)) (returns-clause-index c) c.restore.ensures.changes

pub returns-clause-was_vacant : goal.returns-clause-was_vacant
returns-clause-was_vacant c =
    let t = c.args.self.now.handles in
    let freed = freed_first c.self.inside.slots.items c.self.inside.first c.self.inside.free _ c.args.self.now c.self.view_is (omega arith) in
    let sound : IsSoundHandles t = subst (λ (s : TableState). IsSoundHandles s.handles) c.self.view_is c.self.invariant.sound in
    ap (λ i. handle_at t i) (sym (returns-clause-index c)) ∙ (freed_within t c.self.inside.first sound freed).2

pub returns-clause-full : goal.returns-clause-full
returns-clause-full c =
    (λ is. cc, λ none. absurd (omega (arith, left_of c.self.inside.slots.items c.self.inside.first c.self.inside.free _ c.args.self.now c.self.view_is)))
