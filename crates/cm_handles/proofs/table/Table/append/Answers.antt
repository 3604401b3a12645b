use Rattle.std.proofs.Common.{◌∙◌, ◌++◌, ◌∷◌, [], ap, sym, subst, arith, length, Some}
use Rattle.std.proofs.lemmas.List.{length-map}
use Rattle.cm_handles.specs.Handles.{TableState, IsSoundTable, Changes, next_index}
use Rattle.cm_handles.specs.Slots.{IsThreaded, handle_in}
use Rattle.cm_handles.proofs.TableSteps.{pushed_step, room_after, sound_table, next-pushed, Changes-pushed, vacant-pushed}
use Rattle.cm_handles.proofs.table.Table.append.Goals as goal

pub returns-then-index-gt-MAX_HANDLES-clause-in_room : goal.returns-then-index-gt-MAX_HANDLES-clause-in_room
returns-then-index-gt-MAX_HANDLES-clause-in_room c some =
    absurd (omega (arith, room_after c.self.inside.slots.items _ _ _ c.args.self.now c.self.view_is c.requires, c.self.inside.slots.ok.0))

pub returns-then-index-gt-MAX_HANDLES-clause-sound : goal.returns-then-index-gt-MAX_HANDLES-clause-sound
returns-then-index-gt-MAX_HANDLES-clause-sound c = subst (λ s. IsSoundTable s) c.self.view_is (sound_table _ _ _ _ c.self.invariant)

pub returns-in_default-clause-in_room : goal.returns-in_default-clause-in_room
returns-in_default-clause-in_room c some =
    absurd (omega (arith, room_after c.self.inside.slots.items _ _ _ c.args.self.now c.self.view_is c.requires, c.self.inside.slots.ok.0, (c.in_default.ensures {u = tt}).full))

pub returns-in_default-clause-memory : goal.returns-in_default-clause-memory
returns-in_default-clause-memory c is =
    omega (arith, room_after c.self.inside.slots.items _ _ _ c.args.self.now c.self.view_is c.requires, c.self.inside.slots.ok.0, (c.in_default.ensures {u = tt}).full)

pub returns-in_default-clause-sound : goal.returns-in_default-clause-sound
returns-in_default-clause-sound c =
    sound_table _ _ _ _ (subst (λ es. IsThreaded es c.self.inside.first c.self.inside.free) (sym c.reserve.ensures.items) c.self.invariant)

pub invariant_of-self-2 : goal.invariant_of-self-2
invariant_of-self-2 c =
    let es = c.self.inside.slots.items in
    (pushed_step es c.push_reserved.new.self.items c.self.inside.first c.self.inside.free _ c.args.handle c.of.result c.args.self.now c.of.ensures c.self.invariant c.self.view_is c.requires
    (omega (arith, c.self.inside.slots.ok.0)) (c.push_reserved.ensures.items ∙ ap (λ xs. xs ++ c.of.result ∷ []) c.reserve.ensures.items)).0

pub returns-clause-handles : goal.returns-clause-handles
returns-clause-handles c =
    let es = c.self.inside.slots.items in
    (pushed_step es c.push_reserved.new.self.items c.self.inside.first c.self.inside.free _ c.args.handle c.of.result c.args.self.now c.of.ensures c.self.invariant c.self.view_is c.requires
    (omega (arith, c.self.inside.slots.ok.0)) (c.push_reserved.ensures.items ∙ ap (λ xs. xs ++ c.of.result ∷ []) c.reserve.ensures.items)).1

pub returns-clause-sound : goal.returns-clause-sound
returns-clause-sound c = sound_table _ _ _ _ (invariant_of-self-2 c)

pub returns-clause-index : goal.returns-clause-index
returns-clause-index c = omega (arith, next-pushed c.args.self.now.handles c.requires, ap (λ (s : TableState). length s.handles.slots) c.self.view_is, length-map c.self.inside.slots.items handle_in, c.self.inside.slots.ok.0)

pub returns-clause-changes : goal.returns-clause-changes
returns-clause-changes c =
    let t = c.args.self.now.handles in
    subst (λ n. Changes t n (next_index t) (Some c.args.handle)) (sym (returns-clause-handles c)) (Changes-pushed t c.args.handle c.requires)

pub returns-clause-was_vacant : goal.returns-clause-was_vacant
returns-clause-was_vacant c = vacant-pushed c.args.self.now.handles c.requires
