use Rattle.cm_wit_conforms.specs.Comparisons.{entries}
use Rattle.cm_wit_conforms.proofs.FirstLaws.{never_both, one_first}
use Rattle.cm_wit_conforms.proofs.laws.at_most_one_fault_is_the_first.Goals as goal

pub returns-clause-never_both : goal.returns-clause-never_both
returns-clause-never_both c = λ have world item r. never_both (entries have world) item r

pub returns-clause-one : goal.returns-clause-one
returns-clause-one c = λ have world i j q r. one_first (entries have world) i j q r
