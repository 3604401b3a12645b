use Rattle.cm_validate_entries.proofs.LiftLaws.{func_lifted}
use Rattle.cm_validate_entries.proofs.StepLaws.{on_ok}
use Rattle.cm_validate_entries.proofs.spaces.ComponentSpaces.add_lift.Goals as goal

pub returns-clause-added : goal.returns-clause-added
returns-clause-added c =
    on_ok c.push_func.result (λ pushes types funcs s es i r t is. func_lifted types funcs c.args.self.now c.push_func.new.self s es i c.args.core_func c.args.options c.args.ty r t is pushes) c.push_func.ensures.pushed
