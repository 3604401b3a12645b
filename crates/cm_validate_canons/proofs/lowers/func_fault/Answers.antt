use Rattle.std.proofs.Common.{ap, sym, ◌∙◌}
use Rattle.std.specs.Option.{option_map}
use Rattle.cm_validate_model.specs.Reasons.{found, least}
use Rattle.cm_validate_model.specs.Rules.{lowered_broken}
use Rattle.cm_validate_entries.specs.Entries.{func_def}
use Rattle.cm_validate_canons.specs.Types.{funcs_in, types_in}
use Rattle.cm_validate_canons.proofs.AnswerLaws.{lowered_there}
use Rattle.cm_validate_canons.proofs.lowers.func_fault.Goals as goal

pub returns-in-None : goal.returns-in-None
returns-in-None c = λ s r.
    ap (λ v. least (found (lowered_broken c.args.options.now) v))
    (sym (ap (option_map (func_def (funcs_in c.args.types.now))) c.in-None.is) ∙ c.func.ensures.def (types_in c.args.types.now) (funcs_in c.args.types.now) s r)

pub returns-in-Some : goal.returns-in-Some
returns-in-Some c = λ s r.
    lowered_there (funcs_in c.args.types.now) s c.args.func c.args.options.now c.func.result c.in-Some.func c.lowered_fault.result
    (c.func.ensures.def (types_in c.args.types.now) (funcs_in c.args.types.now) s r) c.in-Some.is c.lowered_fault.ensures
