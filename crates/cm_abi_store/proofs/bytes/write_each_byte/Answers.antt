use Rattle.std.proofs.Common.{◌∙◌}
use Rattle.cm_abi_store.proofs.BytesLemmas.{number_done, number_next, set_length}
use Rattle.cm_abi_store.proofs.bytes.write_each_byte.Goals as goal

pub loop-i-preserved : goal.loop-i-preserved
loop-i-preserved c = (
  set_length c.loop-i.memory _ _ ∙ c.loop-i.invariant.0,
  number_next c.args.size c.loop-i.i c.args.at c.loop-i.rest c.loop-i.memory _ c.loop-i-test.true c.loop-i.invariant.1,
)

pub returns-clause-stored : goal.returns-clause-stored
returns-clause-stored c = number_done c.args.size c.loop-i.i c.args.at c.loop-i.rest c.loop-i.memory _ c.loop-i-test.false c.loop-i.invariant.1
