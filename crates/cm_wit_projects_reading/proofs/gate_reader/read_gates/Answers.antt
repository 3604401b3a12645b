use Rattle.std.proofs.Common.{Option, Ok, ap, ◌∙◌}
use Rattle.std.specs.Option.{option_map}
use Rattle.std.proofs.lemmas.Result.{err_from_is_err_and}
use Rattle.cm_wit_tokens.proofs.LoopLaws.{loop_fail, loop_go_on, loop_end}
use Rattle.cm_wit_projects_reading.specs.Gates.{next_gate}
use Rattle.cm_wit_projects_reading.specs.Views.{placed_gate_tree}
use Rattle.cm_wit_projects_reading.proofs.GateLaws.{next_gate_moves}
use Rattle.cm_wit_projects_reading.proofs.gate_reader.read_gates.Goals as goal

pub returns-in_err-gate : goal.returns-in_err-gate
returns-in_err-gate c =
    let p = err_from_is_err_and c.from_residual.result c.from_residual.ensures.1 in
    rw (p.1, p.2) (loop_fail placed_gate_tree next_gate c.loop-gates.gates.items c.loop-gates.cursor c.read_next_gate.new.cursor c.in_err-gate.field-0.0 _ c.loop-gates.invariant c.in_err-gate.ensures)

pub loop-gates-smaller : goal.loop-gates-smaller
loop-gates-smaller c = next_gate_moves c.loop-gates.cursor (placed_gate_tree c.in-Some.gate) c.read_next_gate.new.cursor (c.in_ok-gate.ensures ∙ ap (λ (o : Option _). Ok (option_map placed_gate_tree o, c.read_next_gate.new.cursor)) c.in-Some.is)

pub loop-gates-preserved : goal.loop-gates-preserved
loop-gates-preserved c = rw c.in_ok-push.ensures.items (loop_go_on placed_gate_tree next_gate next_gate_moves c.loop-gates.gates.items c.in-Some.gate c.loop-gates.cursor c.read_next_gate.new.cursor _ c.loop-gates.invariant (c.in_ok-gate.ensures ∙ ap (λ (o : Option _). Ok (option_map placed_gate_tree o, c.read_next_gate.new.cursor)) c.in-Some.is))

pub returns : goal.returns
returns c = loop_end placed_gate_tree next_gate c.loop-gates.gates.items c.loop-gates.cursor c.read_next_gate.new.cursor _ c.loop-gates.invariant (c.in_ok-gate.ensures ∙ ap (λ (o : Option _). Ok (option_map placed_gate_tree o, c.read_next_gate.new.cursor)) c.in_default.is)
