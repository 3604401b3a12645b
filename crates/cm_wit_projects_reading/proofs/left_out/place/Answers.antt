use Rattle.std.proofs.Common.{sym, ◌∙◌}
use Rattle.cm_wit_projects_reading.proofs.PassingLaws.{left_some, left_none}
use Rattle.cm_wit_projects_reading.proofs.left_out.place.Goals as goal

pub returns-in-Some : goal.returns-in-Some
returns-in-Some c = left_some c.args.cursor.now c.in-Some.left (sym c.left.ensures ∙ c.in-Some.is)

pub returns-in-None : goal.returns-in-None
returns-in-None c = left_none c.args.cursor.now (sym c.left.ensures ∙ c.in-None.is)
