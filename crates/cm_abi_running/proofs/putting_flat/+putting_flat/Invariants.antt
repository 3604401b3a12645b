use Rattle.std.proofs.Common.{◌≡◌, ◌+◌, ◌*◌, ◌-◌, drop}
use Rattle.cm_abi_programs.specs.CodedSlots.{slots_in}
use Rattle.cm_abi_running.specs.Passing.{passed_each}
use Rattle.cm_abi_running.specs.Copying.{copying_of}
use Rattle.cm_abi_running.specs.SlotsPassed.{passing}
use Rattle.cm_abi_running.proofs.PuttingFlatLemmas.{SlotRowLeft, SlotsLeft}
use Rattle.cm_abi_running.proofs.putting_flat.+putting_flat.Given as goal

-- what was passed on so far, and what is still to be, are all of it
abbrev pub invariant-put_flat_all-loop-put : goal.invariant-put_flat_all-loop-put
invariant-put_flat_all-loop-put l =
    SlotsLeft (copying_of l.from) l.given (drop l.put-index l.puts) l.at
    (passing (copying_of l.from) l.given (slots_in l.puts) l.at l.initial.next.part l.initial.next.handle)
    l.next l.initial.slots l.slots l.initial.memory l.memory

abbrev pub invariant-put_flat_each-loop : goal.invariant-put_flat_each-loop
invariant-put_flat_each-loop l =
    record {
      start : l.start ≡ l.at + l.counter * l.distance;
      row : SlotRowLeft (copying_of l.from) l.given (slots_in l.puts) l.distance (l.count - l.counter) l.start
          (passed_each (passing (copying_of l.from) l.given (slots_in l.puts)) l.distance l.count l.at l.initial.next.part l.initial.next.handle)
          l.next l.initial.slots l.slots l.initial.memory l.memory;
    }
