use Rattle.std.proofs.Common.{arith}
use Rattle.cm_wit_tables.proofs.AddLaws.{types_all}
use Rattle.cm_wit_tables.proofs.names.+types.Goals as goal

pub add_types-returns : goal.add_types-returns
add_types-returns t c = types_all c.args.types.now c.loop-ty.ty-index c.args.out.now c.loop-ty.out (omega arith) c.loop-ty.invariant
