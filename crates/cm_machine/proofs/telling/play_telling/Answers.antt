use Rattle.std.proofs.Common.{◌≡◌, true, false, [], ◌∷◌, ◌++◌, refl, sym, ap, ◌∙◌, arith, of_calls}
use Rattle.std.specs.Fn.{CalledAt}
use Rattle.std.proofs.lemmas.Fn.{FoldsTo-push, called_at}
use Rattle.cm_machine_model.specs.Events.{is_last}
use Rattle.cm_machine.specs.Player.{last_of}
use Rattle.cm_machine.proofs.Drives.{begins_playing, last_of_more, plays_on, stops_over, runs_out}
use Rattle.cm_machine.proofs.telling.play_telling.Goals as goal

pub loop-init : goal.loop-init
loop-init g c = record {
  callable = search of_calls;
  playing = ([], refl, (c.listener.new.self, called_at g.F.FnMut c.listener.ensures refl, refl), begins_playing g.G.SeeingGuest.plays c.args.set.now c.args.first c.args.seats.now.items);
  stands = λ more. c.requires.stands;
}

pub returns-then-is_last : goal.returns-then-is_last
returns-then-is_last g c =
    let p = c.loop.invariant.playing in
    let last : is_last (last_of c.args.first p.0) ≡ true = ap is_last (sym p.1) ∙ sym c.is_last.ensures ∙ c.if-is_last.true in
    (p.0, p.1, (c.loop.listener, p.2), stops_over g.G.SeeingGuest.plays c.args.set.now c.args.first c.args.seats.now.items c.args.limit p.0 c.loop.set c.loop.seats.items c.loop.counter p.3 (omega (arith, c.loop-test.true)) last)

pub loop-preserved : goal.loop-preserved
loop-preserved g c =
    let p = c.loop.invariant.playing in
    let more : is_last c.loop.last ≡ false = sym c.is_last.ensures ∙ c.if-is_last.false in
    record {
      callable = search of_calls;
      playing = (
        p.0 ++ c.turn-last.result ∷ [],
        sym (last_of_more c.args.first p.0 c.turn-last.result),
        FoldsTo-push (λ f e h. CalledAt g.F.FnMut f e tt h) c.args.listener (c.args.first ∷ p.0) c.loop.listener c.turn-last.result c.listener-in-loop.new.self p.2 (called_at g.F.FnMut c.listener-in-loop.ensures refl),
        plays_on g.G.SeeingGuest.plays c.args.set.now c.args.first c.args.seats.now.items p.0 c.loop.set c.loop.seats.items c.loop.counter p.3 c.loop.last c.turn-last.result c.turn-last.new.set c.turn-last.new.seats.items (sym p.1) more c.turn-last.ensures.turn,
      );
      stands = c.turn-last.ensures.goes_on;
    }

pub returns : goal.returns
returns g c =
    let p = c.loop.invariant.playing in
    (p.0, p.1, (c.loop.listener, p.2), runs_out g.G.SeeingGuest.plays c.args.set.now c.args.first c.args.seats.now.items c.args.limit p.0 c.loop.set c.loop.seats.items c.loop.counter p.3 (omega arith))
