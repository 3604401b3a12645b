use Rattle.cm_names.specs.Listed.{listed}
use Rattle.cm_wit_tables.specs.Placings.{instances_in}
use Rattle.cm_wit_tables.proofs.PlaceLaws.{place_found}
use Rattle.cm_wit_tables.proofs.placing.Placing.place_of.Goals as goal

pub returns : goal.returns
returns c = place_found (instances_in c.args.self.now) (listed c.args.self.now.keys) c.args.exported c.args.interface c.side_word.result.now c.find.result c.args.self.now.are_keys c.side_word.ensures c.find.ensures
