use Rattle.std.proofs.Common.{◌≡◌, ◌+◌, ◌<◌, ◌≤◌, List, ◌++◌, length, drop, vec_len}
use Rattle.std.specs.Prelude.{vec_capacity}
use Rattle.cm_machine_model.specs.declared.event.Event.{Event}
use Rattle.cm_machine_model.specs.Plan.{Plan}
use Rattle.cm_machine_model.specs.Run.{Run}
use Rattle.cm_machine_model.specs.State.{State}
use Rattle.cm_machine_model.specs.Valid.{IsValidState}
use Rattle.cm_machine_links.specs.Planned.{ArePlanned}
use Rattle.cm_machine_set.proofs.set.Set.run_into.Given as goal

-- what the moves that are left lead to, after the events so far, all the moves lead to
abbrev pub invariant-loop-made : goal.invariant-loop-made
invariant-loop-made l = record {
  told : (plan : Plan) → ArePlanned plan l.fn.self.links → IsValidState plan l.fn.self.state → (es : List Event) (new : State) → Run plan l.self.state (drop l.made-index l.moves) es new → Run plan l.fn.self.state l.moves (l.events.items ++ es) new;
  valid : (plan : Plan) → ArePlanned plan l.fn.self.links → IsValidState plan l.fn.self.state → IsValidState plan l.self.state;
  links : l.self.links ≡ l.fn.self.links;
  room : vec_len l.events + length (drop l.made-index l.moves) ≤ vec_capacity l.events;
  stands : 0 < length (drop l.made-index l.moves) → 0 < length l.self.state.stack;
}
