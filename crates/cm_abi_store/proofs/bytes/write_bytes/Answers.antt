use Rattle.std.proofs.Common.{rules, ◌≡◌, ◌-◌, ◌+◌, arith, length}
use Rattle.cm_abi_store.proofs.BytesLemmas.{part_written}
use Rattle.cm_abi_store.proofs.bytes.write_bytes.Goals as goal

pub returns-clause-stored : goal.returns-clause-stored
returns-clause-stored c =
    let size : c.args.at + length c.args.bytes.now - c.args.at ≡ length c.args.bytes.now = omega arith in
    part_written c.args.at _ c.args.memory.now c.copy_from_slice.new.self c.args.bytes.now (search rules) size c.requires.inside
