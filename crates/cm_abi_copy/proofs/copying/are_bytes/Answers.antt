use Rattle.std.proofs.Common.{arith}
use Rattle.cm_abi_copy.proofs.copying.are_bytes.Goals as goal

pub returns : goal.returns
returns c = λ i. omega (arith, c.type_inv.memory i)
