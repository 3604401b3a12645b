use Rattle.std.proofs.Common.{◌∷◌, [], sym, ap, ◌∙◌}
use Rattle.std.specs.Prelude.{length}
use Rattle.cm_validate_model.specs.Definitions.{resource}
use Rattle.cm_validate_entries.proofs.StayLaws.{resource_defined, resources_stay}
use Rattle.cm_validate_entries.proofs.StepLaws.{on_any_err}
use Rattle.cm_validate_entries.proofs.spaces.ComponentSpaces.define_resource.Goals as goal

pub returns-in_err-define-clause-kept : goal.returns-in_err-define-clause-kept
returns-in_err-define-clause-kept c = on_any_err c.from_residual.result (λ types funcs s r. resources_stay types funcs c.args.self.now c.define.new.self s c.in_err-define.ensures.kept r)

pub returns-clause-added : goal.returns-clause-added
returns-clause-added c = λ types funcs s r. resource_defined types funcs c.args.self.now c.define.new.self s c.args.destructor c.in_ok-define.ensures.added r

pub returns-clause-ty : goal.returns-clause-ty
returns-clause-ty c = λ types funcs s r. ap (λ n. resource n ∷ []) (ap length r.resources_are ∙ sym c.count-number.ensures)
