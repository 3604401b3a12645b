use Rattle.std.proofs.Common.{◌+◌, sym}
use Rattle.cm_abi_model.specs.Stores.{bytes_of, placed}
use Rattle.cm_abi_store.proofs.BytesLemmas.{poke_both}
use Rattle.cm_abi_store.proofs.bytes.write_pointer.Goals as goal

pub returns-clause-stored : goal.returns-clause-stored
returns-clause-stored c =
    rw (c.write_number-2.ensures.stored, c.write_number.ensures.stored, c.from.ensures) (sym (poke_both (placed c.args.at (bytes_of 4 c.args.pointer)) (placed (c.args.at + 4) (bytes_of 4 c.args.count)) c.args.memory.now))
