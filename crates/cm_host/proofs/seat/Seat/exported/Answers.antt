use Rattle.std.proofs.Common.{Some, ap, sym, ◌∙◌}
use Rattle.cm_validate_functions.specs.Functions.{funcs_of}
use Rattle.cm_validate_spaces.specs.cm_validate_entries.Entries.{func_def}
use Rattle.cm_host.proofs.TypesLaws.{exports_of}
use Rattle.cm_host.proofs.seat.Seat.exported.Goals as goal

pub returns-in-Some-Lifted : goal.returns-in-Some-Lifted
returns-in-Some-Lifted c =
    let s = c.args.self.now in
    exports_of s c.args.name.now c.in-Some-Lifted.core_func (funcs_of s.functions) c.in-Some-Lifted.ty c.in-Some-Lifted.options.now c.host_func.result
    (λ u. record { options = c.in-Some-Lifted.options.now; utf8 = u; named = sym c.in-Some-Lifted.ensures.is ∙ ap (λ f. Some (func_def (funcs_of s.functions) f)) c.in-Some-Lifted.field-0-is })
    c.host_func.ensures.utf8 c.host_func.ensures.itself c.host_func.ensures.passed
