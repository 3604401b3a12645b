use Rattle.std.proofs.Common.{◌∙◌}
use Rattle.cm_layout.specs.Layouts.{layout_of}
use Rattle.cm_abi_slots.specs.Steps.{steps_of}
use Rattle.cm_abi_slots.proofs.StepLemmas.{repeats_next}
use Rattle.cm_abi_slots.proofs.steps.+steps.Goals as goal

pub push_each-loop-preserved : goal.push_each-loop-preserved
push_each-loop-preserved t c =
    repeats_next (steps_of (layout_of c.args.element.now).shape) c.loop.steps.items c.push_steps.new.steps.items c.args.count c.loop.counter c.loop-test.true c.in_ok-push_steps.ensures
    ∙ c.loop.invariant
