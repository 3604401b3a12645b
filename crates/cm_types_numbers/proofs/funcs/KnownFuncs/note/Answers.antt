use Rattle.cm_types_numbers.proofs.KnownPlacedLaws.{funcs_more}
use Rattle.cm_types_numbers.proofs.funcs.KnownFuncs.note.Goals as goal

pub returns : goal.returns
returns c = λ t s fs knows is. funcs_more t s fs c.args.self.now (record { numbers = c.insert.new.self }) c.args.func c.args.number c.in_ok-insert.ensures.updates.0 knows is
