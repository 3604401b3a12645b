use Rattle.std.proofs.Common.{◌≡◌, ◌++◌, sym, ap, ◌∙◌}
use Rattle.std.specs.Option.{option_map}
use Rattle.cm_validate_model.specs.Reasons.{least}
use Rattle.cm_validate_model.specs.Rules.{instance_name_broken}
use Rattle.cm_validate_core.specs.NameSets.{known_broken}
use Rattle.cm_validate_entries.proofs.ExportLaws.{instance_added_answer, instance_name_answer, no_instance_answer}
use Rattle.cm_validate_entries.proofs.spaces.ComponentSpaces.export_instance.Goals as goal

pub returns-in_default : goal.returns-in_default
returns-in_default c =
    let named : c.fault-fault.result ≡ least (instance_name_broken c.args.name.now ++ known_broken c.args.name.now c.args.self.now.export_names) =
    c.fault-fault.ensures ∙ ap (λ v. least (instance_name_broken v ++ known_broken v c.args.self.now.export_names)) c.requires in
    rw c.lesser.ensures
    (no_instance_answer c.least_of_both.ensures c.args.index c.args.name c.args.self.now c.fault-fault.result named (sym c.instance_entry.ensures ∙ ap (option_map (λ e. e.now)) c.in_default.is))

pub returns-then-is_some : goal.returns-then-is_some
returns-then-is_some c =
    let named : c.fault-fault.result ≡ least (instance_name_broken c.args.name.now ++ known_broken c.args.name.now c.args.self.now.export_names) =
    c.fault-fault.ensures ∙ ap (λ v. least (instance_name_broken v ++ known_broken v c.args.self.now.export_names)) c.requires in
    instance_name_answer c.least_of_both.ensures c.args.index c.args.name c.args.self.now c.fault-fault.result named c.in-Some.instance.now (sym c.instance_entry.ensures ∙ ap (option_map (λ e. e.now)) c.in-Some.is) (sym c.is_some.ensures ∙ c.if-is_some.true)

pub returns : goal.returns
returns c =
    let named : c.fault-fault.result ≡ least (instance_name_broken c.args.name.now ++ known_broken c.args.name.now c.args.self.now.export_names) =
    c.fault-fault.ensures ∙ ap (λ v. least (instance_name_broken v ++ known_broken v c.args.self.now.export_names)) c.requires in
    instance_added_answer c.least_of_both.ensures c.args.index c.args.name c.args.self.now c.fault-fault.result named c.in-Some.instance.now c.in_ok-added.added c.in_ok-share.field-0 c.push_instance.new.self c.add_export.new.self
    (sym c.instance_entry.ensures ∙ ap (option_map (λ e. e.now)) c.in-Some.is) (sym c.is_some.ensures ∙ c.if-is_some.false) c.in_ok-added.ensures.same c.in_ok-share.ensures.same c.in_ok-added.ensures.there c.in_ok-share.ensures.there
    c.in_ok-push_instance.ensures.pushed (rw c.requires at c.in_ok-add_export.ensures)
