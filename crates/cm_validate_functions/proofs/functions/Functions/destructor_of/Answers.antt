use Rattle.std.proofs.Common.{◌≡◌, ◌∙◌, ◌<◌, Option, Some, None, length, ap, sym, arith}
use Rattle.std.specs.Option.{option_and_then}
use Rattle.cm_validate_spaces.specs.Checked.{spaces_in}
use Rattle.cm_validate_spaces.specs.Exported.{exported_func_of}
use Rattle.cm_validate_spaces.proofs.SetLaws.{held}
use Rattle.cm_validate_functions.proofs.HeldLaws.{number_set}
use Rattle.cm_validate_functions.proofs.functions.Functions.destructor_of.Goals as goal

pub returns-in-None : goal.returns-in-None
returns-in-None c =
    let s = spaces_in c.args.self.now.checked.now in
    sym c.in-None.is ∙ held number_set _ _ c.args.self.now.used (c.destroying.ensures s)

pub returns-in-Some : goal.returns-in-Some
returns-in-Some c =
    let s = spaces_in c.args.self.now.checked.now in
    sym c.in-Some.is ∙ held number_set _ _ c.args.self.now.used (c.destroying.ensures s)
