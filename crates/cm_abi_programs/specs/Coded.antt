-- The checks that the code's are.
use Rattle.std.specs.Prelude.{List, [], ◌∷◌, map}
use Rattle.std.specs.declared.alloc.Global.{Global}
use Rattle.std.specs.declared.sync.Arc.{Arc}
use Rattle.std.specs.declared.vec.Vec.{Vec}
use Rattle.cm_abi_programs.specs.Checks.{Check, Checks, CaseChecks, no_checks, check, no_cases}
use Rattle.cm_abi_programs.specs.Checks.{case, char_check, below_check, text_check, list_check}
use Rattle.cm_abi_programs.specs.Checks.{each_check, cases_check, handle_check, part_check}
use Rattle.cm_abi_programs.specs.declared.checks.Check.{Check as CodedCheck}
use Rattle.cm_abi_programs.specs.declared.checks.Check.TheOpen as coded
use Rattle.cm_abi_programs.specs.declared.checks.Check.TheFolds.{fold-Check, fold-CaseChecks}
use Rattle.cm_abi_programs.specs.declared.checks.CaseChecks.{CaseChecks as CodedCase}

-- checks from a list
abbrev pub checks_from : List Check → Checks
checks_from [] = no_checks
checks_from (c ∷ cs) = check c (checks_from cs)

-- the checks of what each case carries, from a list
abbrev pub cases_from : List Checks → CaseChecks
cases_from [] = no_cases
cases_from (cs ∷ rest) = case cs (cases_from rest)

-- a check, and what a case has, given the checks in it
abbrev pub check_step : coded.Check-F Check Checks → Check
check_step (coded.Char at) = char_check at
check_step (coded.Below at b n) = below_check at b n
check_step (coded.Text at) = text_check at
check_step (coded.List at e cs) = list_check at e (checks_from cs.value.items)
check_step (coded.Each at d n cs) = each_check at d n (checks_from cs.value.items)
check_step (coded.Cases at b d cs) = cases_check at b d (cases_from cs.value.items)
check_step (coded.Handle at h) = handle_check at h
check_step (coded.Part at cs) = part_check at (checks_from cs.value.items)

abbrev pub case_step : coded.CaseChecks-F Check Checks → Checks
case_step c = checks_from c.checks.value.items

-- the check that a check of the code is, and the checks of a case
abbrev pub check_of : CodedCheck → Check
check_of = fold-Check Check Checks check_step case_step

abbrev pub case_of : CodedCase → Checks
case_of = fold-CaseChecks Check Checks check_step case_step

-- and the checks that those of a list are
abbrev pub checks_in : List CodedCheck → Checks
checks_in cs = checks_from (map check_of cs)

-- those of each list
abbrev pub check_lists : List (Arc (Vec CodedCheck Global) Global) → List Checks
check_lists cs = map (λ c. checks_in c.value.items) cs
