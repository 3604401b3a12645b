use Rattle.cm_machine_laws.proofs.FollowAlong.{followed_along}
use Rattle.cm_machine_laws.proofs.values.values_are_followed.Goals as goal

pub returns : goal.returns
returns c = followed_along c.one_value_is_carried.ensures c.histories_are_valid.ensures c.histories_are_told.ensures
