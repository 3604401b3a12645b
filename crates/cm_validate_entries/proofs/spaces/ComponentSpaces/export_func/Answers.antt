use Rattle.std.proofs.Common.{◌≡◌, ◌++◌, sym, ap, ◌∙◌}
use Rattle.cm_validate_model.specs.Reasons.{least}
use Rattle.cm_validate_model.specs.Rules.{func_name_broken}
use Rattle.cm_validate_core.specs.NameSets.{known_broken}
use Rattle.cm_validate_entries.proofs.ExportLaws.{func_added_answer, func_name_answer, no_func_answer}
use Rattle.cm_validate_entries.proofs.spaces.ComponentSpaces.export_func.Goals as goal

pub returns-in_default : goal.returns-in_default
returns-in_default c =
    let named : c.fault-fault.result ≡ least (func_name_broken c.args.name.now ++ known_broken c.args.name.now c.args.self.now.export_names) =
    c.fault-fault.ensures ∙ ap (λ v. least (func_name_broken v ++ known_broken v c.args.self.now.export_names)) c.requires in
    rw c.lesser.ensures (no_func_answer c.least_of_both.ensures c.args.index c.args.name c.args.self.now c.fault-fault.result named (sym c.func_entry.ensures ∙ c.in_default.is))

pub returns-then-is_some : goal.returns-then-is_some
returns-then-is_some c =
    let named : c.fault-fault.result ≡ least (func_name_broken c.args.name.now ++ known_broken c.args.name.now c.args.self.now.export_names) =
    c.fault-fault.ensures ∙ ap (λ v. least (func_name_broken v ++ known_broken v c.args.self.now.export_names)) c.requires in
    func_name_answer c.least_of_both.ensures c.args.index c.args.name c.args.self.now c.fault-fault.result named c.in-Some.func (sym c.func_entry.ensures ∙ c.in-Some.is) (sym c.is_some.ensures ∙ c.if-is_some.true)

pub returns : goal.returns
returns c =
    let named : c.fault-fault.result ≡ least (func_name_broken c.args.name.now ++ known_broken c.args.name.now c.args.self.now.export_names) =
    c.fault-fault.ensures ∙ ap (λ v. least (func_name_broken v ++ known_broken v c.args.self.now.export_names)) c.requires in
    func_added_answer c.least_of_both.ensures c.args.index c.args.name c.args.self.now c.fault-fault.result named c.in-Some.func c.push_func.new.self c.add_export.new.self (sym c.func_entry.ensures ∙ c.in-Some.is) (sym c.is_some.ensures ∙ c.if-is_some.false)
    c.in_ok-push_func.ensures.pushed (rw c.requires at c.in_ok-add_export.ensures)
