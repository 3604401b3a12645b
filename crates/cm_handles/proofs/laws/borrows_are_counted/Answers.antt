use Rattle.std.proofs.Common.{◌+◌, ◌-◌}
use Rattle.cm_handles.proofs.CountedBorrows.{add_counts, change_counts, close_counts, none_counted, release_counts}
use Rattle.cm_handles.proofs.laws.borrows_are_counted.Goals as goal

pub returns-clause-add : goal.returns-clause-add
returns-clause-add c = add_counts

pub returns-clause-release : goal.returns-clause-release
returns-clause-release c = release_counts

pub returns-clause-lend : goal.returns-clause-lend
returns-clause-lend c t index call = change_counts t index call (λ x. x.lends + 1)

pub returns-clause-unlend : goal.returns-clause-unlend
returns-clause-unlend c t index call = change_counts t index call (λ x. x.lends - 1)

pub returns-clause-close : goal.returns-clause-close
returns-clause-close c = close_counts

pub returns-clause-none : goal.returns-clause-none
returns-clause-none c = none_counted
