use Rattle.std.proofs.Common.{◌∙◌, ap, map}
use Rattle.cm_validate_instances.specs.Sketches.{sketch_of}
use Rattle.cm_validate_instances.proofs.DefinitionFaultLaws.{are_before, func_before, func_faults_told, value_before, value_faults_told}
use Rattle.cm_validate_instances.proofs.sketch_laws.faults_are_sketched.Goals as goal

pub returns-clause-value : goal.returns-clause-value
returns-clause-value c = value_faults_told

pub returns-clause-func : goal.returns-clause-func
returns-clause-func c = func_faults_told

pub returns-clause-value_before : goal.returns-clause-value_before
returns-clause-value_before c = λ types v. ap are_before (value_faults_told types v) ∙ value_before (map sketch_of types) v

pub returns-clause-func_before : goal.returns-clause-func_before
returns-clause-func_before c = λ types f. ap are_before (func_faults_told types f) ∙ func_before (map sketch_of types) f
