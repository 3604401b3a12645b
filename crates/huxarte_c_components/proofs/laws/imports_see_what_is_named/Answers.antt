use Rattle.huxarte_c_components.proofs.SeenLaws.{seen}
use Rattle.huxarte_c_components.proofs.laws.imports_see_what_is_named.Goals as goal

pub returns : goal.returns
returns c = λ b set rows are linked by importer number item there. seen b set rows linked importer number item are by there
