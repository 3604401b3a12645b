use Rattle.std.proofs.Common.{refl, length}
use Rattle.cm_abi_copy.proofs.CopyLemmas.{tuple_lies}
use Rattle.cm_abi_copy.proofs.place.PlaceValueSource.fields.Goals as goal

pub returns : goal.returns
returns c = λ n g e ps k h ready. (refl, (tuple_lies (length c.args.self.from.now.memory.now) c.args.self.at e ps ready.0, ready.1))
