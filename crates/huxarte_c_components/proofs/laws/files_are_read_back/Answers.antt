use Rattle.huxarte_c_components.proofs.SeenLaws.{read_back, within}
use Rattle.huxarte_c_components.proofs.laws.files_are_read_back.Goals as goal

pub returns-clause-within : goal.returns-clause-within
returns-clause-within c = within

pub returns-clause-same : goal.returns-clause-same
returns-clause-same c = read_back
