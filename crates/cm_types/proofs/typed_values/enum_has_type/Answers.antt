use Rattle.std.proofs.Common.{sym}
use Rattle.cm_types.specs.ValueTrees.{value_of}
use Rattle.cm_types.proofs.TypedValueLemmas.{enum_bare, enum_bearing}
use Rattle.cm_types.proofs.typed_values.enum_has_type.Goals as goal

pub returns-in-None : goal.returns-in-None
returns-in-None c = rw c.in-None.is (sym (enum_bare c.args.labels.now c.args.index))

pub returns-in-Some : goal.returns-in-Some
returns-in-Some c = rw c.in-Some.is (sym (enum_bearing c.args.labels.now c.args.index (value_of c.in-Some.field-0.value)))
