use Rattle.huxarte_c_components.proofs.SeenLaws.{placed}
use Rattle.huxarte_c_components.proofs.laws.choices_are_placed.Goals as goal

pub returns : goal.returns
returns c = placed
