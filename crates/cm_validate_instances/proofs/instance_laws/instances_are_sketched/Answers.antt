use Rattle.cm_validate_model.specs.Declarations.{instance_def_broken}
use Rattle.cm_validate_instances.proofs.InstanceLaws.{instance_before, instance_told}
use Rattle.cm_validate_instances.proofs.SketchScopeLaws.{declarations_told, faults_before, faults_told}
use Rattle.cm_validate_instances.proofs.instance_laws.instances_are_sketched.Goals as goal

pub returns-clause-scope : goal.returns-clause-scope
returns-clause-scope c = declarations_told c.definitions_are_sketched.ensures.value c.definitions_are_sketched.ensures.func

pub returns-clause-declarations : goal.returns-clause-declarations
returns-clause-declarations c =
    faults_told c.definitions_are_sketched.ensures.value c.definitions_are_sketched.ensures.func c.definitions_are_sketched.ensures.sorts c.faults_are_sketched.ensures.value c.faults_are_sketched.ensures.func c.limits_come_last.ensures.others

pub returns-clause-instance : goal.returns-clause-instance
returns-clause-instance c = λ types next ds.
    instance_told types next ds c.least_of_both.ensures c.limits_come_last.ensures.others c.names_are_sketched.ensures.before c.names_are_sketched.ensures.least
    (declarations_told c.definitions_are_sketched.ensures.value c.definitions_are_sketched.ensures.func)
    (faults_told c.definitions_are_sketched.ensures.value c.definitions_are_sketched.ensures.func c.definitions_are_sketched.ensures.sorts c.faults_are_sketched.ensures.value c.faults_are_sketched.ensures.func c.limits_come_last.ensures.others)

pub returns-clause-last : goal.returns-clause-last
returns-clause-last c = λ types next ds.
    c.limits_come_last.ensures.least (instance_def_broken types next ds)
    (instance_before types next ds c.limits_come_last.ensures.others c.names_are_sketched.ensures.before
    (faults_before c.limits_come_last.ensures.others c.faults_are_sketched.ensures.value_before c.faults_are_sketched.ensures.func_before))
