use Rattle.std.proofs.Common.{◌∙◌, ap, sym}
use Rattle.cm_abi_programs.specs.Checks.{leaf_checks, one_check}
use Rattle.cm_abi_programs.specs.Coded.{checks_in}
use Rattle.cm_abi_programs.proofs.CheckForms.{seen_Char}
use Rattle.cm_abi_programs.proofs.ShapeLemmas.{becomes}
use Rattle.cm_abi_programs.proofs.listed_checks.leaf_checks.Goals as goal

pub returns-in-Char : goal.returns-in-Char
returns-in-Char c = becomes checks_in c.one_check.result _ _ (ap one_check (seen_Char 0) ∙ ap leaf_checks (sym c.in-Char.is)) c.one_check.ensures
