use Rattle.std.proofs.Common.{◌+◌, ◌-◌}
use Rattle.cm_handles.proofs.ChangedTables.{add_changes, close_changes, lends_change, release_changes}
use Rattle.cm_handles.proofs.laws.tables_change_in_one_place.Goals as goal

pub returns-clause-add : goal.returns-clause-add
returns-clause-add c = add_changes

pub returns-clause-release : goal.returns-clause-release
returns-clause-release c = release_changes

pub returns-clause-lend : goal.returns-clause-lend
returns-clause-lend c t index h = lends_change t index h (λ x. x.lends + 1)

pub returns-clause-unlend : goal.returns-clause-unlend
returns-clause-unlend c t index h = lends_change t index h (λ x. x.lends - 1)

pub returns-clause-close : goal.returns-clause-close
returns-clause-close c = close_changes
