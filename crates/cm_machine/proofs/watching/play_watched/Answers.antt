use Rattle.std.proofs.Common.{◌≡◌, ℕ, ◌⊎◌, inl, inr, Bool, true, false, refl, sym, ap, ◌∙◌, arith}
use Rattle.cm_machine_model.specs.declared.event.Event.{Event}
use Rattle.cm_machine_model.specs.Events.{is_last}
use Rattle.cm_machine.specs.Watching.{WatchedEnd}
use Rattle.cm_machine.proofs.Watched.{begins_watching, watches_on, watched}
use Rattle.cm_machine.proofs.watching.play_watched.Goals as goal

ends_by : (limit count : ℕ) (last : Event) (goes_on over : Bool) → over ≡ is_last last → (goes_on ≡ false) ⊎ ((goes_on ≡ true) × (over ≡ true)) → WatchedEnd limit last goes_on count
ends_by limit count last goes_on over is (inl enough) = inr (inl enough)
ends_by limit count last goes_on over is (inr p) = inl (sym is ∙ p.1)

pub loop-init : goal.loop-init
loop-init g c = record {
  watching = begins_watching g.G.SeeingGuest.plays g.W.Watcher.before g.W.Watcher.after c.args.set.now c.args.first c.args.seats.now.items c.args.watcher.now c.told-goes_on.result c.told-goes_on.new.self c.told-goes_on.ensures;
  stands = λ more. c.requires.stands;
}

pub returns-then-not-goes_on : goal.returns-then-not-goes_on
returns-then-not-goes_on g c =
    watched g.G.SeeingGuest.plays g.W.Watcher.before g.W.Watcher.after c.args.set.now c.args.first c.args.seats.now.items c.args.watcher.now c.loop.last c.loop.set c.loop.seats.items c.loop.watcher c.loop.goes_on c.loop.counter c.args.limit c.loop.invariant.watching c.loop.auto.counter-end
    (ends_by c.args.limit c.loop.counter c.loop.last c.loop.goes_on c.is_last-is_over.result c.is_last-is_over.ensures c.then-not-goes_on.either)

pub loop-preserved : goal.loop-preserved
loop-preserved g c =
    let more : is_last c.loop.last ≡ false = sym c.is_last-is_over.ensures ∙ c.if-is_over.false in
    record {
      watching = watches_on g.G.SeeingGuest.plays g.W.Watcher.before g.W.Watcher.after c.args.set.now c.args.first c.args.seats.now.items c.args.watcher.now c.loop.last c.loop.set c.loop.seats.items c.loop.watcher c.loop.goes_on c.loop.counter c.loop.invariant.watching
          c.watched_turn-last.result c.watched_turn-last.new.set c.watched_turn-last.new.seats.items c.watched_turn-last.new.watcher c.told-goes_on-in-loop.new.self c.told-goes_on-in-loop.result more c.if-not-goes_on.false c.watched_turn-last.ensures.turn c.told-goes_on-in-loop.ensures;
      stands = c.watched_turn-last.ensures.goes_on;
    }

pub returns : goal.returns
returns g c =
    watched g.G.SeeingGuest.plays g.W.Watcher.before g.W.Watcher.after c.args.set.now c.args.first c.args.seats.now.items c.args.watcher.now c.loop.last c.loop.set c.loop.seats.items c.loop.watcher c.loop.goes_on c.loop.counter c.args.limit c.loop.invariant.watching (omega arith) (inr (inr (omega arith)))
