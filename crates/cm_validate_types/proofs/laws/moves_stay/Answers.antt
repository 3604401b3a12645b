use Rattle.cm_validate_types.proofs.StayLaws.{all_settled, counted_moved, items_settled, scope_settled}
use Rattle.cm_validate_types.proofs.laws.moves_stay.Goals as goal

pub returns-clause-items : goal.returns-clause-items
returns-clause-items c = λ t u f g first items p q. items_settled t u f g p q first items

pub returns-clause-entries : goal.returns-clause-entries
returns-clause-entries c = λ t u f g es p q. all_settled t u f g p q es

pub returns-clause-counted : goal.returns-clause-counted
returns-clause-counted c = counted_moved

pub returns-clause-scopes : goal.returns-clause-scopes
returns-clause-scopes c = scope_settled
