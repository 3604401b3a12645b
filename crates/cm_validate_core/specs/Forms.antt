-- What the names of imports and exports have to be by their forms (Explainer.md, "Import and Export
-- Definitions").
use Rattle.std.specs.Prelude.{ℕ, List}
use Rattle.cm_validate_model.specs.declared.fault.ValidReason.{ValidReason}
use Rattle.cm_validate_model.specs.Rules.{func_name_broken, instance_name_broken}
use Rattle.cm_validate_core.specs.declared.forms.ExternSort.{ExternSort}
use Rattle.cm_validate_core.specs.declared.forms.ExternSort.TheVariants as sort

-- the rule that the form of the name of an import or an export violates, by its sort
abbrev pub form_broken : ExternSort → List ℕ → List ValidReason
form_broken sort.Func name = func_name_broken name
form_broken sort.Instance name = instance_name_broken name
