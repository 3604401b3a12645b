use Rattle.std.proofs.Common.{◌≡◌, true, false, List, [], ◌∷◌, ◌++◌, Some, None, sym, ap, ◌∙◌, arith}
use Rattle.cm_machine_model.specs.declared.event.Event.{Event}
use Rattle.cm_machine_model.specs.Events.{is_last}
use Rattle.cm_machine.specs.Player.{last_of}
use Rattle.cm_machine.proofs.Drives.{begins_playing, plays_on, stops_over, halts_at, runs_out, last_pushed, last_seen, some_last, last_is_seen}
use Rattle.cm_machine.proofs.turns.play_on.Goals as goal

pub loop-init : goal.loop-init
loop-init g c = record {
  playing = λ first is. ([], is, begins_playing g.G.SeeingGuest.plays c.args.set.now first c.args.seats.now.items);
  stands = λ first told is more. c.requires.stands;
}

pub unreachable-requires : goal.unreachable-requires
unreachable-requires g c =
    let p = c.loop.invariant.playing c.requires.one.0 c.requires.one.1 in
    let items : c.deref.result.now ≡ c.loop.events.items = c.deref.ensures.value ∙ c.reserve.ensures.items in
    some_last c.loop.events.items c.requires.one.0 p.0 p.1 (last_seen c.deref.result.now c.loop.events.items None items c.in_default.ensures.value)

pub turn-event-requires : goal.turn-event-requires
turn-event-requires g c =
    let first = c.requires.one.0 in
    let p = c.loop.invariant.playing first c.requires.one.1 in
    let more : is_last (last_of first p.0) ≡ false = sym (c.is_over.ensures first p.0 p.1) ∙ c.if-is_over.false in
    c.loop.invariant.stands first p.0 p.1 more

pub returns-then-is_over-clause-ok : goal.returns-then-is_over-clause-ok
returns-then-is_over-clause-ok g c first is =
    let p = c.loop.invariant.playing first is in
    let last : is_last (last_of first p.0) ≡ true = sym (c.is_over.ensures first p.0 p.1) ∙ c.if-is_over.true in
    (p.0, p.1, stops_over g.G.SeeingGuest.plays c.args.set.now first c.args.seats.now.items c.args.limit p.0 c.loop.set c.loop.seats.items c.loop.counter p.2 (omega (arith, c.loop-test.true)) last)

pub returns-then-is_err-clause-halt : goal.returns-then-is_err-clause-halt
returns-then-is_err-clause-halt g c first is =
    let p = c.loop.invariant.playing first is in
    let more : is_last (last_of first p.0) ≡ false = sym (c.is_over.ensures first p.0 p.1) ∙ c.if-is_over.false in
    halts_at g.G.SeeingGuest.plays c.args.set.now first c.args.seats.now.items c.args.limit p.0 c.loop.set c.loop.seats.items c.loop.counter p.2 more (omega (arith, c.loop-test.true))

pub loop-preserved : goal.loop-preserved
loop-preserved g c =
    let items : c.deref.result.now ≡ c.loop.events.items = c.deref.ensures.value ∙ c.reserve.ensures.items in
    let there = last_seen c.deref.result.now c.loop.events.items (Some c.in-Some.seen.now) items c.in-Some.ensures.value in
    let pushed : c.push.new.self.items ≡ c.loop.events.items ++ c.turn-event.result ∷ [] = c.in-Ok.ensures.items ∙ ap (λ (xs : List Event). xs ++ c.turn-event.result ∷ []) c.reserve.ensures.items in
    record {
      playing = λ first is.
          let p = c.loop.invariant.playing first is in
          let saw = last_is_seen c.loop.events.items c.in-Some.seen.now there first p.0 p.1 in
          let more : is_last c.in-Some.seen.now ≡ false = ap is_last (sym saw) ∙ sym (c.is_over.ensures first p.0 p.1) ∙ c.if-is_over.false in
          (p.0 ++ c.turn-event.result ∷ [], pushed ∙ ap (λ (xs : List Event). xs ++ c.turn-event.result ∷ []) p.1, plays_on g.G.SeeingGuest.plays c.args.set.now first c.args.seats.now.items p.0 c.loop.set c.loop.seats.items c.loop.counter p.2 c.in-Some.seen.now c.turn-event.result c.turn-event.new.set c.turn-event.new.seats.items saw more c.turn-event.ensures.turn);
      stands = λ first told is open_.
          let same = last_pushed c.loop.events.items c.turn-event.result first told (sym pushed ∙ is) in
          c.turn-event.ensures.goes_on (ap is_last (sym same) ∙ open_);
    }

pub returns-clause-ok : goal.returns-clause-ok
returns-clause-ok g c first is =
    let p = c.loop.invariant.playing first is in
    (p.0, p.1, runs_out g.G.SeeingGuest.plays c.args.set.now first c.args.seats.now.items c.args.limit p.0 c.loop.set c.loop.seats.items c.loop.counter p.2 (omega arith))
