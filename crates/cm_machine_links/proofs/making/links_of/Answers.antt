use Rattle.std.proofs.Common.{map}
use Rattle.cm_machine_links.proofs.making.links_of.Goals as goal

pub returns : goal.returns
returns c = c.core_functions_stand.ensures.plan (map (λ v. v.items) c.in_ok-rows.rows.items) c.in_ok-rows.ensures
