use Rattle.cm_types.specs.declared.core_value.CoreKind.TheVariants as kind
use Rattle.cm_abi.proofs.SlotLemmas.{next_fits}
use Rattle.cm_abi.proofs.slots.put_core_values.Goals as goal

pub bounds-numbers-i : goal.bounds-numbers-i
bounds-numbers-i c = (next_fits c.args.kinds.now c.args.numbers.now c.loop-i.i kind.I32 c.loop-i-test.true c.loop-i.invariant.2).there
