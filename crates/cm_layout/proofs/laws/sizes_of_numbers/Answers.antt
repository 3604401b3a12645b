use Rattle.cm_layout.proofs.NumberLaws.{discriminants, flag_sets}
use Rattle.cm_layout.proofs.laws.sizes_of_numbers.Goals as goal

pub returns-clause-discriminants : goal.returns-clause-discriminants
returns-clause-discriminants c = discriminants

pub returns-clause-flags : goal.returns-clause-flags
returns-clause-flags c = flag_sets
