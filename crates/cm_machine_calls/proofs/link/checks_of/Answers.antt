use Rattle.std.proofs.Common.{◌∙◌, ap}
use Rattle.cm_abi_model.specs.Views.{flat_limit}
use Rattle.cm_abi_model.specs.Ways.{way_of}
use Rattle.cm_abi_programs.specs.Checks.{passed_checks_of}
use Rattle.cm_abi_programs.specs.Coded.{checks_in}
use Rattle.cm_machine_calls.proofs.link.checks_of.Goals as goal

pub returns : goal.returns
returns c = λ l is.
    let are = c.types_of-types.ensures l is in
    ap checks_in c.as_slice.ensures.value ∙ (are.checks_are ∙ ap (passed_checks_of (flat_limit (way_of c.args.way))) are.layout_is)
