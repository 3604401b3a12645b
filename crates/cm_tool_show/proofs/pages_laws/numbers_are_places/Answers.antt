use Rattle.cm_tool_show.proofs.NumberLaws.{one_number}
use Rattle.cm_tool_show.proofs.pages_laws.numbers_are_places.Goals as goal

pub returns : goal.returns
returns c = one_number
