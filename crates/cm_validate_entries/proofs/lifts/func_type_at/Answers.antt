use Rattle.cm_validate_entries.proofs.LiftLaws.{sort_told, type_told, where_err, where_ok}
use Rattle.cm_validate_entries.proofs.lifts.func_type_at.Goals as goal

pub returns-clause-ty : goal.returns-clause-ty
returns-clause-ty c = where_ok c.func_at.result (type_told c.args.types.now c.args.index) c.func_at.ensures.there

pub returns-clause-broken : goal.returns-clause-broken
returns-clause-broken c = where_err c.func_at.result (sort_told c.args.types.now c.args.index) c.func_at.ensures.broken
