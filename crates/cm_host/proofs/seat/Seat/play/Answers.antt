use Rattle.std.proofs.Common.{[], refl, ap, subst, ◌∙◌}
use Rattle.cm_machine.specs.cm_machine_model.declared.event.Event.TheVariants as event
use Rattle.cm_host.specs.Calls.{EndsWith, resumed_last}
use Rattle.cm_host.proofs.Ends.{has_ended, map_err, map_ok}
use Rattle.cm_host.proofs.seat.Seat.play.Goals as goal

pub returns-in-Ok-clause-ended : goal.returns-in-Ok-clause-ended
returns-in-Ok-clause-ended g c =
    map_ok c.came_to.result _ _ (λ f h. has_ended _ c.args.self.now.instance c.args.limit c.args.caller c.args.set.now c.args.seats.now.items c.sit.new.seats.items c.in-Ok.events.items c.drive_seeing.new.set c.drive_seeing.new.seats.items event.Ended f
    c.in_ok-sit.ensures.sits c.in_ok-sit.ensures.others c.in-Ok.ensures.drive (subst (λ es. EndsWith es event.Ended) c.deref.ensures.value h.0) (h.1 ∙ ap (resumed_last c.args.self.now.instance []) c.deref.ensures.value))
    c.came_to.ensures.ended

pub returns-in-Ok-clause-trapped : goal.returns-in-Ok-clause-trapped
returns-in-Ok-clause-trapped g c =
    map_err c.came_to.result _ _ (λ e h t is. (
      resumed_last c.args.self.now.instance [] c.in-Ok.events.items,
      has_ended _ c.args.self.now.instance c.args.limit c.args.caller c.args.set.now c.args.seats.now.items c.sit.new.seats.items c.in-Ok.events.items c.drive_seeing.new.set c.drive_seeing.new.seats.items (event.Trapped t) _
          c.in_ok-sit.ensures.sits c.in_ok-sit.ensures.others c.in-Ok.ensures.drive (subst (λ es. EndsWith es (event.Trapped t)) c.deref.ensures.value (h t is)) refl,
    ))
    c.came_to.ensures.trapped
