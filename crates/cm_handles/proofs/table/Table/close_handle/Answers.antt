use Rattle.std.proofs.Common.{sym, ◌∙◌, ap, subst, arith}
use Rattle.std.specs.Prelude.{is_some}
use Rattle.cm_handles.specs.Handles.{IsSoundTable}
use Rattle.cm_handles.proofs.TableSteps.{read_slot, sound_table, slots_length}
use Rattle.cm_handles.proofs.ClosingTable.{after_close_at-owned, after_close_at-borrowed}
use Rattle.cm_handles.proofs.table.Table.close_handle.Goals as goal

pub returns-in_default-clause-sound : goal.returns-in_default-clause-sound
returns-in_default-clause-sound c = subst (λ s. IsSoundTable s) c.self.view_is (sound_table _ _ _ _ c.self.invariant)

pub write_lends-requires : goal.write_lends-requires
write_lends-requires c =
    let s = c.self.inside in
    ap is_some (read_slot s.slots.items s.first s.free _ c.args.index c.index.result.now c.args.self.now c.self.view_is c.requires.positive (omega (arith, slots_length s.slots.items s.first s.free _ c.args.self.now c.self.view_is)) c.index.ensures ∙ sym c.in-Some.ensures)

pub release-requires : goal.release-requires
release-requires c =
    let s = c.self.inside in
    ap is_some (read_slot s.slots.items s.first s.free _ c.args.index c.index.result.now c.args.self.now c.self.view_is c.requires.positive (omega (arith, slots_length s.slots.items s.first s.free _ c.args.self.now c.self.view_is)) c.index.ensures ∙ sym c.in-Some.ensures)

pub returns-in-Owned-clause-handles : goal.returns-in-Owned-clause-handles
returns-in-Owned-clause-handles c =
    let s = c.self.inside in
    let slot = read_slot s.slots.items s.first s.free _ c.args.index c.index.result.now c.args.self.now c.self.view_is c.requires.positive (omega (arith, slots_length s.slots.items s.first s.free _ c.args.self.now c.self.view_is)) c.index.ensures ∙ sym c.in-Some.ensures in
    c.write_lends.ensures.handles ∙ after_close_at-owned c.args.self.now.handles c.args.index c.in-Some.handle slot c.in-Owned.is

pub returns-in-Borrowed-clause-handles : goal.returns-in-Borrowed-clause-handles
returns-in-Borrowed-clause-handles c =
    let s = c.self.inside in
    let slot = read_slot s.slots.items s.first s.free _ c.args.index c.index.result.now c.args.self.now c.self.view_is c.requires.positive (omega (arith, slots_length s.slots.items s.first s.free _ c.args.self.now c.self.view_is)) c.index.ensures ∙ sym c.in-Some.ensures in
    c.release.ensures.handles ∙ after_close_at-borrowed c.args.self.now.handles c.args.index c.in-Borrowed.call c.in-Some.handle _ slot c.in-Borrowed.is
