use Rattle.std.proofs.Common.{◌≡◌, ◌+◌, ◌-◌, length}
use Rattle.cm_abi_model.specs.Stores.{bytes_of, placed, poke}
use Rattle.cm_abi_store.proofs.bytes.write_each_byte.Given as goal

-- what was written, and what is still to be written, are all bytes
abbrev pub invariant-loop-i : goal.invariant-loop-i
invariant-loop-i l =
    (length l.memory ≡ length l.initial.memory)
    × (poke (placed (l.at + l.i) (bytes_of (l.size - l.i) l.rest)) l.memory ≡ poke (placed l.at (bytes_of l.size l.number)) l.initial.memory)
