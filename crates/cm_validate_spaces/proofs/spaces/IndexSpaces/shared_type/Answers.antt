use Rattle.cm_validate_spaces.specs.IndexSpaces.{funcs_in, types_in}
use Rattle.cm_validate_spaces.proofs.spaces.IndexSpaces.shared_type.Goals as goal

pub returns-in_ok-share-in-Some-clause-settled : goal.returns-in_ok-share-in-Some-clause-settled
returns-in_ok-share-in-Some-clause-settled c = λ a.
    c.in_ok-share-in-Some.ensures.settled (types_in c.args.self.now) (funcs_in c.args.self.now) (c.in-Some.ensures.settled a)
