use Rattle.cm_binary.proofs.StreamLaws.{read_known}
use Rattle.cm_binary.proofs.streams.decode_from.Goals as goal

pub returns-clause-known : goal.returns-clause-known
returns-clause-known g c = read_known (g.R.Read.remaining c.args.reader.now) (g.R.Read.remaining c.read_from.new.reader) c.read_from.result c.read_from.ensures
