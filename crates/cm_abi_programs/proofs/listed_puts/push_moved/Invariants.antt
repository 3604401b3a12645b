use Rattle.std.proofs.Common.{◌≡◌, drop}
use Rattle.cm_abi_programs.specs.Puts.{with_moved}
use Rattle.cm_abi_programs.specs.CodedPuts.{puts_in}
use Rattle.cm_abi_programs.proofs.listed_puts.push_moved.Given as goal

-- with the puts to come, these are all
abbrev pub invariant-loop-put : goal.invariant-loop-put
invariant-loop-put l =
    with_moved l.by (puts_in l.all.items) (puts_in (drop l.put-index l.puts)) ≡ with_moved l.by (puts_in l.initial.all.items) (puts_in l.puts)
