use Rattle.std.proofs.Common.{◌≡◌, drop}
use Rattle.cm_abi_programs.specs.Checks.{are_unchecked}
use Rattle.cm_abi_programs.specs.Coded.{cases_from, check_lists}
use Rattle.cm_abi_programs.proofs.listed_checks.are_unchecked.Given as goal

-- whether there is nothing in any case is whether there is nothing in those to come
abbrev pub invariant-loop-checks : goal.invariant-loop-checks
invariant-loop-checks l = are_unchecked (cases_from (check_lists l.cases)) ≡ are_unchecked (cases_from (check_lists (drop l.checks-index l.cases)))
