use Rattle.std.proofs.Common.{rules}
use Rattle.cm_validate.specs.cm_validate_spaces.Checked.{spaces_in}
use Rattle.cm_validate.specs.Exports.{signature_in}
use Rattle.cm_tool_files.proofs.conforming.conform_component.Goals as goal

pub returns-in_err-world-clause-unfit : goal.returns-in_err-world-clause-unfit
returns-in_err-world-clause-unfit c =
    let h = c.in_err-world.ensures.fault (signature_in (spaces_in c.args.component)) in
    search (rules, h)
