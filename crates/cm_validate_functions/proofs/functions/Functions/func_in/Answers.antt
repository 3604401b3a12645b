use Rattle.std.proofs.Common.{◌≡◌, ◌∙◌, ◌<◌, Option, Some, None, length, ap, sym, arith}
use Rattle.std.specs.Option.{option_and_then}
use Rattle.cm_validate_spaces.specs.Checked.{spaces_in}
use Rattle.cm_validate_spaces.specs.Exported.{exported_func_of}
use Rattle.cm_validate_spaces.proofs.SetLaws.{held}
use Rattle.cm_validate_functions.proofs.HeldLaws.{number_set}
use Rattle.cm_validate_functions.specs.Leading.{export_named}
use Rattle.cm_validate_functions.proofs.functions.Functions.func_in.Goals as goal

pub returns-in-None-clause-is : goal.returns-in-None-clause-is
returns-in-None-clause-is c =
    let s = spaces_in c.args.self.now.checked.now in
    let found : c.export.result ≡ export_named s c.args.interface.now = held number_set _ _ c.args.self.now.named (c.export.ensures s) in
    sym (ap (option_and_then (λ e. exported_func_of s e (Some c.args.name.now))) (sym found ∙ c.in-None.is))

pub returns-in-Some-clause-is : goal.returns-in-Some-clause-is
returns-in-Some-clause-is c =
    let s = spaces_in c.args.self.now.checked.now in
    let found : c.export.result ≡ export_named s c.args.interface.now = held number_set _ _ c.args.self.now.named (c.export.ensures s) in
    c.func.ensures.is ∙ sym (ap (option_and_then (λ e. exported_func_of s e (Some c.args.name.now))) (sym found ∙ c.in-Some.is))
