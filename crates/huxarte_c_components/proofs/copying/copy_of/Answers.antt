use Rattle.std.proofs.Common.{inr}
use Rattle.huxarte_c_components.proofs.FuncLaws.{refused_anyway}
use Rattle.huxarte_c_components.proofs.copying.copy_of.Goals as goal

pub copy_params-requires : goal.copy_params-requires
copy_params-requires c = let of = c.in-Ok.ensures.call in (of.0, of.1.is.is_of)

pub returns-in-Ok-copy_params-clause-copied : goal.returns-in-Ok-copy_params-clause-copied
returns-in-Ok-copy_params-clause-copied c = let of = c.in-Ok.ensures.call in (of.0, c.in-Ok.call, of.1, c.in-Ok-copy_params.ensures.copied of.0 of.1.is.is_of)

pub returns-in-Ok-clause-refused : goal.returns-in-Ok-clause-refused
returns-in-Ok-clause-refused c = let of = c.in-Ok.ensures.call in inr (of.0, c.in-Ok.call, of.1, c.in-Err-copy_params.ensures.refused of.0 of.1.is.is_of)

pub returns-clause-refused : goal.returns-clause-refused
returns-clause-refused c = refused_anyway c.args.bytes.now c.args.call.now c.args.given.now _ c.in-Err.fault c.in-Err.ensures.refused
