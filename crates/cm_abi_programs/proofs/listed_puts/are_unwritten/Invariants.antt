use Rattle.std.proofs.Common.{◌≡◌, drop}
use Rattle.cm_abi_programs.specs.Puts.{are_unwritten}
use Rattle.cm_abi_programs.specs.CodedPuts.{case_puts_from, put_lists}
use Rattle.cm_abi_programs.proofs.listed_puts.are_unwritten.Given as goal

-- whether there is nothing in any case is whether there is nothing in those to come
abbrev pub invariant-loop-puts : goal.invariant-loop-puts
invariant-loop-puts l = are_unwritten (case_puts_from (put_lists l.cases)) ≡ are_unwritten (case_puts_from (put_lists (drop l.puts-index l.cases)))
