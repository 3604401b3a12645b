use Rattle.std.proofs.Common.{◌<◌, length, arith, ap, sym, ◌∙◌}
use Rattle.cm_machine.specs.Player.{closes_between}
use Rattle.cm_machine.proofs.Seats.{EmptiedTo, turn_empties, turn_keeps, all_emptied}
use Rattle.cm_machine.proofs.turns.empty_closed.Goals as goal
use Rattle.cm_machine.proofs.turns.empty_closed.Goals.{then-closes, else-closes}

pub loop-i-preserved : goal.loop-i-preserved
loop-i-preserved g c =
    let e : EmptiedTo (closes_between c.args.before.now c.args.after.now) c.args.seats.now.items c.loop-i.seats.items c.loop-i.i = record { done = c.loop-i.invariant.done; rest = c.loop-i.invariant.rest } in
    let inside : c.loop-i.i < length c.loop-i.seats.items = omega (arith, c.loop-i.invariant.long, c.loop-i-test.true, c.len-i-end.ensures, c.args.seats.now.ok.0) in
    elim c.if-closes.branch [
      | then-closes w ↦ (let n = turn_empties _ (closes_between c.args.before.now c.args.after.now) c.args.seats.now.items c.loop-i.seats.items c.if-closes.seats.items c.loop-i.i e inside (sym c.closes_between-closes.ensures ∙ w.if-closes.true) c.loop-i.invariant.long (ap (λ v. v.items) w.seats-is ∙ w.empty_seat.ensures) in record { done = n.done; rest = n.rest; long = n.long })
      | else-closes w ↦ (let n = turn_keeps _ (closes_between c.args.before.now c.args.after.now) c.args.seats.now.items c.loop-i.seats.items c.if-closes.seats.items c.loop-i.i e (sym c.closes_between-closes.ensures ∙ w.if-closes.false) c.loop-i.invariant.long (ap (λ v. v.items) w.seats-is) in record { done = n.done; rest = n.rest; long = n.long })
    ]

pub returns : goal.returns
returns g c =
    let e : EmptiedTo (closes_between c.args.before.now c.args.after.now) c.args.seats.now.items c.loop-i.seats.items c.loop-i.i = record { done = c.loop-i.invariant.done; rest = c.loop-i.invariant.rest } in
    all_emptied (closes_between c.args.before.now c.args.after.now) c.args.seats.now.items c.loop-i.seats.items c.loop-i.i e (omega (arith, c.len-i-end.ensures, c.loop-i-test.false, c.args.seats.now.ok.0))
