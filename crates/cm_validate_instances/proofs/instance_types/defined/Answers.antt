use Rattle.std.proofs.Common.{◌∙◌, ap, sym, map}
use Rattle.cm_types.specs.DefTypes.{declaration_tree}
use Rattle.cm_validate_model.specs.Declarations.{Scope, scope_in}
use Rattle.cm_validate_types.specs.TypeScopes.{own_types}
use Rattle.cm_validate_instances.specs.DeclaredScopes.{scope_of}
use Rattle.cm_validate_instances.specs.FirstFaults.{first_reason}
use Rattle.cm_validate_instances.proofs.GrowLaws.{through}
use Rattle.cm_validate_instances.proofs.InstanceLaws.{limits_broken, none_broken}
use Rattle.cm_validate_instances.proofs.SettledLaws.{counted_around, settled_after}
use Rattle.cm_validate_instances.proofs.instance_types.defined.Goals as goal

pub returns-in-Ok-Some-clause-fault : goal.returns-in-Ok-Some-clause-fault
returns-in-Ok-Some-clause-fault c =
    let types = own_types c.args.component in
    let ds = map declaration_tree c.args.declarations.now in
    let first = ap (λ s. first_reason s ds) (sym c.new-reading.ensures.scope) ∙ sym c.in-Ok-Some.ensures.fault ∙ c.in-Ok-Some.field-0-is in
    limits_broken types c.args.next ds (c.instances_are_sketched.ensures.last types c.args.next ds) (c.first_reasons.ensures.some (scope_in types c.args.next) ds c.in-Ok-Some.field-0-0 first) c.requires.within

pub returns-in-Ok-clause-fault : goal.returns-in-Ok-clause-fault
returns-in-Ok-clause-fault c =
    let types = own_types c.args.component in
    let ds = map declaration_tree c.args.declarations.now in
    let first = ap (λ s. first_reason s ds) (sym c.new-reading.ensures.scope) ∙ sym c.in-Ok-None.ensures.fault ∙ c.in-Ok-None.field-0-is in
    none_broken types c.args.next ds c.limits_come_last.ensures.others c.names_are_sketched.ensures.before (c.first_reasons.ensures.none (scope_in types c.args.next) ds first) c.requires.within

pub returns-in-Err-clause-grown : goal.returns-in-Err-clause-grown
returns-in-Err-clause-grown c =
    through c.args.component (scope_of c.new-reading.result) (scope_of c.declare_all.new.self) c.finish-component.result.0 c.new-reading.ensures.grown c.declare_all.ensures.grown c.finish-component.ensures.grown

pub returns-in-Ok-Some-clause-grown : goal.returns-in-Ok-Some-clause-grown
returns-in-Ok-Some-clause-grown c =
    through c.args.component (scope_of c.new-reading.result) (scope_of c.declare_all.new.self) c.finish-component-in-Ok-Some.result.0 c.new-reading.ensures.grown c.declare_all.ensures.grown c.finish-component-in-Ok-Some.ensures.grown

pub returns-in-Err-clause-settled : goal.returns-in-Err-clause-settled
returns-in-Err-clause-settled c = λ counted settled.
    let grown = through c.args.component (scope_of c.new-reading.result) (scope_of c.declare_all.new.self) c.finish-component.result.0 c.new-reading.ensures.grown c.declare_all.ensures.grown c.finish-component.ensures.grown in
    settled_after c.moves_stay.ensures.scopes c.args.component c.finish-component.result.0 c.new-reading.result c.declare_all.new.self grown c.new-reading.ensures.entries c.declare_all.ensures.entries c.finish-component.ensures.entries settled

pub returns-in-Ok-Some-clause-settled : goal.returns-in-Ok-Some-clause-settled
returns-in-Ok-Some-clause-settled c = λ counted settled.
    let grown = through c.args.component (scope_of c.new-reading.result) (scope_of c.declare_all.new.self) c.finish-component-in-Ok-Some.result.0 c.new-reading.ensures.grown c.declare_all.ensures.grown c.finish-component-in-Ok-Some.ensures.grown in
    settled_after c.moves_stay.ensures.scopes c.args.component c.finish-component-in-Ok-Some.result.0 c.new-reading.result c.declare_all.new.self grown c.new-reading.ensures.entries c.declare_all.ensures.entries c.finish-component-in-Ok-Some.ensures.entries settled

pub returns-in-Ok-clause-settled : goal.returns-in-Ok-clause-settled
returns-in-Ok-clause-settled c = λ counted settled.
    let read = c.declare_all.new.self in
    let fin = c.finish-component-in-Ok-None in
    let grown = through c.args.component (scope_of c.new-reading.result) (scope_of read) fin.result.0 c.new-reading.ensures.grown c.declare_all.ensures.grown fin.ensures.grown in
    let around = c.declare_all.ensures.around ∙ ap (λ (s : Scope). s.around) c.new-reading.ensures.scope in
    let items = fin.ensures.settled (counted_around (own_types c.args.component) c.args.next read around (c.declare_all.ensures.first ∙ c.new-reading.ensures.first) counted) in
    c.add_instance.ensures.settled items (settled_after c.moves_stay.ensures.scopes c.args.component fin.result.0 c.new-reading.result read grown c.new-reading.ensures.entries c.declare_all.ensures.entries fin.ensures.entries settled)

pub returns-in-Err-add_instance-clause-settled : goal.returns-in-Err-add_instance-clause-settled
returns-in-Err-add_instance-clause-settled c = λ counted settled.
    let read = c.declare_all.new.self in
    let fin = c.finish-component-in-Ok-None in
    let grown = through c.args.component (scope_of c.new-reading.result) (scope_of read) fin.result.0 c.new-reading.ensures.grown c.declare_all.ensures.grown fin.ensures.grown in
    let around = c.declare_all.ensures.around ∙ ap (λ (s : Scope). s.around) c.new-reading.ensures.scope in
    let items = fin.ensures.settled (counted_around (own_types c.args.component) c.args.next read around (c.declare_all.ensures.first ∙ c.new-reading.ensures.first) counted) in
    c.add_instance.ensures.settled items (settled_after c.moves_stay.ensures.scopes c.args.component fin.result.0 c.new-reading.result read grown c.new-reading.ensures.entries c.declare_all.ensures.entries fin.ensures.entries settled)
