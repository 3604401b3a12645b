use Rattle.std.proofs.Common.{◌≡◌, ◌++◌, drop, map}
use Rattle.cm_abi_programs.specs.CodedPuts.{case_of, put_lists}
use Rattle.cm_abi_programs.proofs.listed_puts.case_puts.Given as goal

-- with those of the cases to come, these are all
abbrev pub invariant-loop-case : goal.invariant-loop-case
invariant-loop-case l = map case_of l.all.items ++ put_lists (drop l.case-index l.cases) ≡ put_lists l.cases
