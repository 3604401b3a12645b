use Rattle.std.proofs.Common.{◌≡◌, ◌++◌, drop, map}
use Rattle.cm_abi_programs.specs.Coded.{case_of, check_lists}
use Rattle.cm_abi_programs.proofs.listed_checks.case_checks.Given as goal

-- with those of the cases to come, these are all
abbrev pub invariant-loop-case : goal.invariant-loop-case
invariant-loop-case l = map case_of l.all.items ++ check_lists (drop l.case-index l.cases) ≡ check_lists l.cases
