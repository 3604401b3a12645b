use Rattle.std.proofs.Common.{◌≡◌, ◌+◌, ◌*◌, ◌-◌, drop}
use Rattle.cm_abi_programs.specs.CodedPuts.{puts_in}
use Rattle.cm_abi_running.specs.Putting.{written_each}
use Rattle.cm_abi_running.specs.Copying.{copying_of}
use Rattle.cm_abi_running.specs.PutsWritten.{running}
use Rattle.cm_abi_running.proofs.PuttingLemmas.{PutsLeft, RowLeft}
use Rattle.cm_abi_running.proofs.putting.+putting.Given as goal

-- what was written so far, and what is still to be, are all of it
abbrev pub invariant-put_all-loop-put : goal.invariant-put_all-loop-put
invariant-put_all-loop-put l =
    PutsLeft (copying_of l.from) (drop l.put-index l.puts) l.source l.at
    (running (copying_of l.from) (puts_in l.puts) l.source l.at l.initial.next.part l.initial.next.handle)
    l.next l.initial.memory l.memory

abbrev pub invariant-put_each-loop : goal.invariant-put_each-loop
invariant-put_each-loop l =
    record {
      start : l.start ≡ l.source + l.counter * l.distance;
      to : l.to ≡ l.at + l.counter * l.distance;
      row : RowLeft (copying_of l.from) (puts_in l.puts) l.distance (l.count - l.counter) l.start l.to
          (written_each (running (copying_of l.from) (puts_in l.puts)) l.distance l.count l.source l.at l.initial.next.part l.initial.next.handle)
          l.next l.initial.memory l.memory;
    }
