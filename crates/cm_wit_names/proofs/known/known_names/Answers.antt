use Rattle.std.proofs.Common.{refl, arith}
use Rattle.cm_wit_names.proofs.LeastLaws.{item_at}
use Rattle.cm_wit_names.proofs.TableLaws.{seeks_step}
use Rattle.cm_wit_names.proofs.known.known_names.Goals as goal

pub loop-index-preserved : goal.loop-index-preserved
loop-index-preserved c = seeks_step c.args.mentions.now c.loop-index.index c.index-mentions-index.result c.loop-index.table c.note_known.new.table (omega (arith, c.loop-index-test.true)) (item_at c.args.mentions.now c.args.mentions.now c.loop-index.index c.index-mentions-index.result c.index-mentions-index.is refl) c.loop-index.invariant c.in_ok-note_known.ensures
