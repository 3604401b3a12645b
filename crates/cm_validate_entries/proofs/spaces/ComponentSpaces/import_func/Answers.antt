use Rattle.std.proofs.Common.{◌≡◌, ◌++◌, None, sym, ap, ◌∙◌, subst}
use Rattle.cm_validate_model.specs.Reasons.{least}
use Rattle.cm_validate_model.specs.Rules.{func_name_broken}
use Rattle.cm_validate_core.specs.NameSets.{known_broken}
use Rattle.cm_validate_entries.specs.Steps.{PushesFunc}
use Rattle.cm_validate_entries.specs.declared.entries.FuncEntry.TheVariants as func
use Rattle.cm_validate_entries.proofs.AnswerLaws.{func_added_answer, func_name_answer, func_type_answer}
use Rattle.cm_validate_entries.proofs.spaces.ComponentSpaces.import_func.Goals as goal

pub returns-in-Err : goal.returns-in-Err
returns-in-Err c =
    let named : c.fault-fault.result ≡ least (func_name_broken c.args.name ++ known_broken c.args.name c.args.self.now.import_names) =
    c.fault-fault.ensures ∙ ap (λ v. least (func_name_broken v ++ known_broken v c.args.self.now.import_names)) c.requires in
    rw c.lesser.ensures (func_type_answer c.least_of_both.ensures c.args.types.now c.args.index c.args.name c.args.self.now c.in-Err.reason c.fault-fault.result c.in-Err.ensures.broken named)

pub returns-then-is_some : goal.returns-then-is_some
returns-then-is_some c =
    let named : c.fault-fault.result ≡ least (func_name_broken c.args.name ++ known_broken c.args.name c.args.self.now.import_names) =
    c.fault-fault.ensures ∙ ap (λ v. least (func_name_broken v ++ known_broken v c.args.self.now.import_names)) c.requires in
    func_name_answer c.least_of_both.ensures c.args.types.now c.args.index c.args.name c.args.self.now c.in-Ok.ty c.fault-fault.result c.in-Ok.ensures.there named (sym c.is_some.ensures ∙ c.if-is_some.true)

pub returns : goal.returns
returns c =
    let named : c.fault-fault.result ≡ least (func_name_broken c.args.name ++ known_broken c.args.name c.args.self.now.import_names) =
    c.fault-fault.ensures ∙ ap (λ v. least (func_name_broken v ++ known_broken v c.args.self.now.import_names)) c.requires in
    func_added_answer c.least_of_both.ensures c.args.types.now c.args.index c.args.name c.args.self.now c.in-Ok.ty c.fault-fault.result c.push_func.new.self c.add_import.new.self c.in-Ok.ensures.there named (sym c.is_some.ensures ∙ c.if-is_some.false)
    (subst (λ n. PushesFunc (func.Imported n None c.in-Ok.ty) c.args.self.now c.push_func.new.self) c.import_count-import.ensures c.in_ok-push_func.ensures.pushed) (rw c.requires at c.in_ok-add_import.ensures)
