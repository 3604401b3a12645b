use Rattle.std.proofs.Common.{◌≡◌, subst}
use Rattle.cm_types.specs.Types.{fields, tuple_type}
use Rattle.cm_host_values.specs.Indexed.{host_types}
use Rattle.cm_host_values.specs.Sees.{Sees, host_of}
use Rattle.cm_host_values.proofs.SeesLaws.{see_denoted, show_denoted}
use Rattle.cm_host_values.proofs.laws.hosts_see_what_is_denoted.Goals as goal

pub returns-clause-there : goal.returns-clause-there
returns-clause-there c w way types slots v d = let r = see_denoted w way types slots v d in (r.0, r.1)

pub returns-clause-seen : goal.returns-clause-seen
returns-clause-seen c w way types slots v u d h =
    let r = see_denoted w way types slots v d in
    subst (λ x. Sees w.table (fields tuple_type types) v x) (c.denotations_are_unique.ensures.denoted (host_of w) way (host_types types) slots r.0 u r.1 h) r.2

pub returns-clause-passed : goal.returns-clause-passed
returns-clause-passed c w way types slots v u = show_denoted w way types slots v u
