use Rattle.cm_machine_guests.proofs.Apart.{all_inside, all_apart}
use Rattle.cm_machine_guests.proofs.laws.regions_are_apart.Goals as goal

pub returns-clause-inside : goal.returns-clause-inside
returns-clause-inside c old rs new h = all_inside old rs new h

pub returns-clause-apart : goal.returns-clause-apart
returns-clause-apart c old rs new h = all_apart old rs new h
