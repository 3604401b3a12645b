use Rattle.std.proofs.Common.{subst, ◌∙◌}
use Rattle.cm_types.specs.Values.{parts}
use Rattle.cm_types.specs.ValueTrees.{values_of}
use Rattle.cm_machine.specs.cm_machine_model.declared.event.Event.TheVariants as event
use Rattle.cm_host.specs.Calls.{result_slots}
use Rattle.cm_host.specs.Passing.{Gets}
use Rattle.cm_host.proofs.Ends.{map_err, map_ok, was_called}
use Rattle.cm_host.proofs.seat.Seat.call.Goals as goal

pub returns-in-Err-clause-trapped : goal.returns-in-Err-clause-trapped
returns-in-Err-clause-trapped g c t is =
    let h = c.in-Err.ensures.trapped t is in
    was_called _ c.args.self.now c.args.name.now (parts (values_of c.args.args.now)) c.args.limit c.args.set.now c.args.seats.now.items (event.Trapped t) c.play.new.set c.play.new.seats.items c.in_ok-func.func c.in_ok-ready.ready.lowered c.in_ok-ready.ready.place c.new-caller.result c.in_ok-queue.queue.moves.items h.0 c.in_ok-func.ensures c.in_ok-ready.ensures.denote c.in_ok-queue.ensures c.new-caller.ensures h.1

pub returns-clause-answered : goal.returns-clause-answered
returns-clause-answered g c =
    map_ok c.get.result _ _ (λ vs h. record {
      call = was_called _ c.args.self.now c.args.name.now (parts (values_of c.args.args.now)) c.args.limit c.args.set.now c.args.seats.now.items (event.Ended) c.play.new.set c.play.new.seats.items c.in_ok-func.func c.in_ok-ready.ready.lowered c.in_ok-ready.ready.place c.new-caller.result c.in_ok-queue.queue.moves.items c.in-Ok.resumed c.in_ok-func.ensures c.in_ok-ready.ensures.denote c.in_ok-queue.ensures c.new-caller.ensures c.in-Ok.ensures.ended;
      gets = subst (λ m. Gets m c.in_ok-func.func.results (result_slots c.in_ok-ready.ready.place c.in-Ok.resumed) (parts (values_of vs.items))) c.memory_of.ensures
          (subst (λ s. Gets c.memory_of.result.now c.in_ok-func.func.results s (parts (values_of vs.items))) (c.as_slice.ensures ∙ c.slots_of-slots.ensures) h);
    }) c.get.ensures.gets

pub returns-clause-trapped : goal.returns-clause-trapped
returns-clause-trapped g c = map_err c.get.result _ _ (λ e h t is. absurd (h t is)) c.get.ensures.no_trap
