use Rattle.std.proofs.Common.{ap, sym, nat_eq}
use Rattle.cm_types.specs.ValueTrees.{value_of}
use Rattle.cm_types.proofs.TypedValueLemmas.{count_of_list}
use Rattle.cm_types.proofs.typed_values.are_as_many.Goals as goal

pub returns : goal.returns
returns c = ap (λ n. nat_eq n c.args.length) (sym (count_of_list value_of c.args.values.now))
