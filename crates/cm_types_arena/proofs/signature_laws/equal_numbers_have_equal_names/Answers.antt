use Rattle.cm_types_arena.proofs.NumberLaws.{equal_names}
use Rattle.cm_types_arena.proofs.signature_laws.equal_numbers_have_equal_names.Goals as goal

pub returns : goal.returns
returns c = equal_names
