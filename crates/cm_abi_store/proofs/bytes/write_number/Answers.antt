use Rattle.std.proofs.Common.{◌≡◌, ◌∙◌, ◌+◌, ◌-◌, ◌<◌, ◌≤◌, ℕ, List, ◌++◌, length, take, drop, arith, refl}
use Rattle.cm_abi_store.proofs.BytesLemmas.{part_written}
use Rattle.cm_abi_store.proofs.NumberLemmas.{low_16, low_32, low_64, nothing_behind}
use Rattle.cm_abi_model.specs.Stores.{bytes_of}
use Rattle.cm_abi_store.proofs.bytes.write_number.Goals as goal

pub returns-in-2-clause-stored : goal.returns-in-2-clause-stored
unfolding bytes_of
returns-in-2-clause-stored c =
    let two : c.args.at + 2 - c.args.at ≡ 2 = omega arith in
    rw c.in-2.is (part_written c.args.at _ c.args.memory.now c.write_u16.new.buf (bytes_of 2 c.args.number) (c.write_u16.ensures ∙ nothing_behind 2 c.args.at c.args.memory.now _ _ (low_16 c.args.number)) two (rw c.in-2.is at c.requires.inside))

pub returns-in-4-clause-stored : goal.returns-in-4-clause-stored
unfolding bytes_of
returns-in-4-clause-stored c =
    let four : c.args.at + 4 - c.args.at ≡ 4 = omega arith in
    rw c.in-4.is (part_written c.args.at _ c.args.memory.now c.write_u32.new.buf (bytes_of 4 c.args.number) (c.write_u32.ensures ∙ nothing_behind 4 c.args.at c.args.memory.now _ _ (low_32 c.args.number)) four (rw c.in-4.is at c.requires.inside))

pub returns-in-8-clause-stored : goal.returns-in-8-clause-stored
unfolding bytes_of
returns-in-8-clause-stored c =
    let eight : c.args.at + 8 - c.args.at ≡ 8 = omega arith in
    rw c.in-8.is (part_written c.args.at _ c.args.memory.now c.write_u64.new.buf (bytes_of 8 c.args.number) (c.write_u64.ensures ∙ nothing_behind 8 c.args.at c.args.memory.now _ _ (low_64 c.args.number)) eight (rw c.in-8.is at c.requires.inside))
