use Rattle.std.proofs.Common.{refl}
use Rattle.cm_types.specs.declared.limits.TheConstants.{MAX_FLAT_PARAMS}
use Rattle.cm_abi_copy.proofs.FlatLemmas.{tuple_lies}
use Rattle.cm_abi_copy.proofs.slots.SlotsValueSource.fields.Goals as goal

pub returns : goal.returns
returns c = λ n g e ps k h ready. (refl, (ready.0, tuple_lies MAX_FLAT_PARAMS c.args.self.at e ps ready.1, ready.2))
