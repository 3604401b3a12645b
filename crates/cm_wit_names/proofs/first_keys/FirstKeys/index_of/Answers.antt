use Rattle.cm_names.specs.TextTables.{texts_of}
use Rattle.cm_wit_names.proofs.FirstLaws.{number_is}
use Rattle.cm_wit_names.proofs.first_keys.FirstKeys.index_of.Goals as goal

pub returns : goal.returns
returns c = number_is (texts_of c.args.self.now.names) c.args.name.now c.number.result c.args.self.now.distinct c.number.ensures.there c.number.ensures.known
