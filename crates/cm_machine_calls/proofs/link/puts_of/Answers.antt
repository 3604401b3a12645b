use Rattle.std.proofs.Common.{◌∙◌, ap}
use Rattle.cm_abi_model.specs.Views.{flat_limit}
use Rattle.cm_abi_model.specs.Ways.{way_of}
use Rattle.cm_abi_programs.specs.CallPuts.{call_puts_of}
use Rattle.cm_machine_calls.proofs.link.puts_of.Goals as goal

pub returns : goal.returns
returns c = λ l is.
    let are = c.types_of-types.ensures l is in
    are.puts_are ∙ ap (call_puts_of (flat_limit (way_of c.args.way))) are.layout_is
