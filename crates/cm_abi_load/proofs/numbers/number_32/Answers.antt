use Rattle.std.proofs.Common.{◌∙◌}
use Rattle.cm_abi_load.proofs.NumberLemmas.{little_is}
use Rattle.cm_abi_load.proofs.numbers.number_32.Goals as goal

pub returns : goal.returns
returns c = c.read_u32.ensures ∙ little_is 4 c.args.at c.args.memory.now
