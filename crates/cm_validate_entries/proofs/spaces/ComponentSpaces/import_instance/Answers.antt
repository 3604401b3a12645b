use Rattle.std.proofs.Common.{◌≡◌, ◌++◌, sym, ap, ◌∙◌}
use Rattle.cm_validate_model.specs.Reasons.{least}
use Rattle.cm_validate_model.specs.Rules.{instance_name_broken}
use Rattle.cm_validate_core.specs.NameSets.{known_broken}
use Rattle.cm_validate_entries.proofs.AnswerLaws.{instance_added_answer, instance_name_answer, instance_type_answer}
use Rattle.cm_validate_entries.proofs.spaces.ComponentSpaces.import_instance.Goals as goal

pub returns-in-Err : goal.returns-in-Err
returns-in-Err c =
    let named : c.fault-fault.result ≡ least (instance_name_broken c.args.name ++ known_broken c.args.name c.args.self.now.import_names) =
    c.fault-fault.ensures ∙ ap (λ v. least (instance_name_broken v ++ known_broken v c.args.self.now.import_names)) c.requires in
    rw c.lesser.ensures (instance_type_answer c.least_of_both.ensures c.args.types.now c.args.index c.args.name c.args.self.now c.in-Err.reason c.fault-fault.result c.in-Err.ensures.broken named)

pub returns-then-is_some : goal.returns-then-is_some
returns-then-is_some c =
    let named : c.fault-fault.result ≡ least (instance_name_broken c.args.name ++ known_broken c.args.name c.args.self.now.import_names) =
    c.fault-fault.ensures ∙ ap (λ v. least (instance_name_broken v ++ known_broken v c.args.self.now.import_names)) c.requires in
    instance_name_answer c.least_of_both.ensures c.args.types.now c.args.index c.args.name c.args.self.now c.in-Ok.items.now c.fault-fault.result c.in-Ok.ensures.there named (sym c.is_some.ensures ∙ c.if-is_some.true)

pub returns : goal.returns
returns c =
    let named : c.fault-fault.result ≡ least (instance_name_broken c.args.name ++ known_broken c.args.name c.args.self.now.import_names) =
    c.fault-fault.ensures ∙ ap (λ v. least (instance_name_broken v ++ known_broken v c.args.self.now.import_names)) c.requires in
    instance_added_answer c.least_of_both.ensures c.args.types.now c.args.index c.args.name c.args.self.now c.in-Ok.items.now c.fault-fault.result c.add_instance.new.self c.in-Ok.ensures.there named (sym c.is_some.ensures ∙ c.if-is_some.false)
    c.in_ok-add_instance.ensures
