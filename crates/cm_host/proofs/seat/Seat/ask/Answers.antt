use Rattle.std.proofs.Common.{refl, ap, sym, subst, ◌∙◌}
use Rattle.cm_host.specs.Calls.{Asks, moves_of, number_answered}
use Rattle.cm_host.proofs.seat.Seat.ask.Goals as goal

pub returns-in-Ok-clause-answered : goal.returns-in-Ok-clause-answered
returns-in-Ok-clause-answered g c =
    record {
      moves = moves_of c.new-caller.result;
      asks = subst (λ ms. Asks c.args.func c.args.number ms) (sym c.new-caller.ensures) c.in_ok-queue.ensures;
      resumed = c.in-Ok.resumed;
      ended = c.in-Ok.ensures.ended;
      answers = c.number_answered.ensures ∙ ap number_answered c.as_slice.ensures;
    }

pub returns-in-Err-clause-trapped : goal.returns-in-Err-clause-trapped
returns-in-Err-clause-trapped g c t is =
    let h = c.in-Err.ensures.trapped t is in (
      number_answered h.0,
      record {
        moves = moves_of c.new-caller.result;
        asks = subst (λ ms. Asks c.args.func c.args.number ms) (sym c.new-caller.ensures) c.in_ok-queue.ensures;
        resumed = h.0;
        ended = h.1;
        answers = refl;
      },
    )
