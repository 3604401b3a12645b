use Rattle.std.proofs.Common.{length}
use Rattle.cm_wit_signature.proofs.item_laws.tables_stay.Goals as goal
use Rattle.cm_wit_meanings.proofs.GrowthLaws.{extends_length}
use Rattle.cm_wit_meanings.proofs.ScopeLaws.{placed_more, table_kept}

pub returns-clause-same : goal.returns-clause-same
returns-clause-same c = λ types more table e h. table_kept types more table e h

pub returns-clause-placed : goal.returns-clause-placed
returns-clause-placed c = λ types more table e h. placed_more (length types) (length more) table (extends_length types more e) h
