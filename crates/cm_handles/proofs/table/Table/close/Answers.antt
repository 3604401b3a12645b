use Rattle.std.proofs.Common.{◌∙◌, ◌+◌, ap, sym, subst, arith, refl}
use Rattle.cm_handles.specs.Handles.{IsSoundTable, handle_at}
use Rattle.cm_handles.proofs.TableSteps.{slots_length, sound_table}
use Rattle.cm_handles.proofs.ClosingTable.{IsClosing, closing_start, closing_step, closing_end, closed-at_each}
use Rattle.cm_handles.proofs.table.Table.close.Goals as goal

pub loop-at-init : goal.loop-at-init
loop-at-init c =
    let s = c.self.inside in
    let sound : IsSoundTable c.args.self.now = subst (λ s. IsSoundTable s) c.self.view_is (sound_table _ _ _ _ c.self.invariant) in
    record {
      closing = closing_start c.args.self.now.handles sound.handles;
      room = refl;
      sound = sound;
      count = omega (arith, slots_length s.slots.items s.first s.free _ c.args.self.now c.self.view_is, s.slots.ok.0);
    }

pub loop-at-preserved : goal.loop-at-preserved
loop-at-preserved c =
    let inv = c.loop-at.invariant in
    record {
      closing = subst (λ t. IsClosing c.args.self.now.handles t (c.loop-at.at + 1 + 1)) (sym c.close_handle.ensures.handles) (closing_step c.args.self.now.handles c.loop-at.self.handles (c.loop-at.at + 1) (omega (arith, inv.count)) inv.closing);
      room = omega (arith, inv.room, c.close_handle.ensures.room);
      sound = c.close_handle.ensures.sound;
      count = inv.count;
    }

pub returns-clause-at_each : goal.returns-clause-at_each
returns-clause-at_each c index =
    let inv = c.loop-at.invariant in
    ap (λ t. handle_at t index) (closing_end c.args.self.now.handles c.loop-at.self.handles (c.loop-at.at + 1) (omega (arith, inv.count, c.loop-at.auto.at-end)) inv.closing) ∙ closed-at_each c.args.self.now.handles index
