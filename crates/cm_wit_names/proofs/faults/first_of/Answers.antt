use Rattle.std.proofs.Common.{subst}
use Rattle.cm_wit_names.specs.Firsts.{Firsts}
use Rattle.cm_wit_names.proofs.FaultLaws.{borrow_found}
use Rattle.cm_wit_names.proofs.faults.first_of.Goals as goal

pub returns-in-Some : goal.returns-in-Some
returns-in-Some c = λ ms f. borrow_found ms c.args.borrow c.args.duplicate c.args.unknown c.args.cycle c.in-Some.place c.in-Some.is f

pub returns-in-None : goal.returns-in-None
returns-in-None c = λ ms f. c.first_other.ensures ms (subst (λ o. Firsts ms o c.args.duplicate c.args.unknown c.args.cycle) c.in-None.is f)
