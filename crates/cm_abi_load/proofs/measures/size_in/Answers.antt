use Rattle.std.proofs.Common.{refl}
use Rattle.cm_abi_load.proofs.MeasureLemmas.{ill_formed}
use Rattle.cm_abi_load.proofs.measures.size_in.Goals as goal

pub returns-in-Err-clause-err : goal.returns-in-Err-clause-err
returns-in-Err-clause-err g c = (refl, ill_formed g.S.Source.has g.S.Source.spell c.args.bytes.now c.in-Err.field-0 c.in-Err.ensures.ill_formed)
