use Rattle.std.proofs.Common.{inr}
use Rattle.huxarte_c_components.proofs.FuncLaws.{refused_anyway}
use Rattle.huxarte_c_components.proofs.requesting.requests_of.Goals as goal

pub asked-requires : goal.asked-requires
asked-requires c = let of = c.in-Ok.ensures.call in (of.0, of.1.is.is_of)

pub returns-in-Ok-asked-clause-rows : goal.returns-in-Ok-asked-clause-rows
returns-in-Ok-asked-clause-rows c = let of = c.in-Ok.ensures.call in (of.0, c.in-Ok.call, of.1, c.in-Ok-asked.ensures.rows of.0 of.1.is.is_of)

pub returns-in-Ok-clause-refused : goal.returns-in-Ok-clause-refused
returns-in-Ok-clause-refused c = let of = c.in-Ok.ensures.call in inr (of.0, c.in-Ok.call, of.1, c.in-Err-asked.ensures.refused of.0 of.1.is.is_of)

pub returns-clause-refused : goal.returns-clause-refused
returns-clause-refused c = refused_anyway c.args.bytes.now c.args.call.now c.args.slots.now _ c.in-Err.fault c.in-Err.ensures.refused
