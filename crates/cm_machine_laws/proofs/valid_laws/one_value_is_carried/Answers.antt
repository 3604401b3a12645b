use Rattle.cm_machine_laws.proofs.OneCarried.{one_carried}
use Rattle.cm_machine_laws.proofs.valid_laws.one_value_is_carried.Goals as goal

pub returns : goal.returns
returns c = one_carried c.one_value_is_on_its_way.ensures
