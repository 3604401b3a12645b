use Rattle.std.proofs.Common.{ap, rules}
use Rattle.std.specs.Option.{option_map}
use Rattle.cm_wit_meanings.specs.Meanings.{with_self}
use Rattle.cm_wit_meanings.proofs.PartsAddedLaws.{answers_so, behind, meant_so, refused}
use Rattle.cm_wit_meanings.proofs.FuncLaws.{method_refused}
use Rattle.cm_wit_meanings.proofs.functions.method_def.Goals as goal

pub returns-in_err-def : goal.returns-in_err-def
returns-in_err-def c = answers_so (search rules) (refused c.in_err-def.ensures (method_refused _ c.args.resource _))

pub with_self-requires : goal.with_self-requires
with_self-requires c = record { parts = c.in_ok-def.ensures.there }

pub returns : goal.returns
returns c =
    meant_so (ap (option_map (with_self c.args.resource)) c.in_ok-def.ensures.meaning) (behind c.in_ok-def.ensures c.with_self.ensures)
