use Rattle.std.proofs.Common.{◌≡◌, ◌+◌, ◌*◌, ◌-◌}
use Rattle.cm_abi_programs.specs.Puts.{one_put, text_put}
use Rattle.cm_abi_running.specs.Putting.{written_each}
use Rattle.cm_abi_running.specs.Copying.{copying_of}
use Rattle.cm_abi_running.specs.PutsWritten.{running}
use Rattle.cm_abi_running.proofs.PuttingLemmas.{RowLeft}
use Rattle.cm_abi_running.proofs.putting.put_texts.Given as goal

-- what was written so far, and what is still to be, are all of it
abbrev pub invariant-loop : goal.invariant-loop
invariant-loop l =
    record {
      start : l.start ≡ l.source + l.counter * l.distance;
      to : l.to ≡ l.at + l.counter * l.distance;
      row : RowLeft (copying_of l.from) (one_put (text_put l.behind)) l.distance (l.count - l.counter) l.start l.to
          (written_each (running (copying_of l.from) (one_put (text_put l.behind))) l.distance l.count l.source l.at l.initial.next.part l.initial.next.handle)
          l.next l.initial.memory l.memory;
    }
