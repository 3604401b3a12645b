use Rattle.std.proofs.Common.{◌∙◌, arith}
use Rattle.huxarte_c_calls.proofs.TextLaws.{written_front}
use Rattle.huxarte_c_calls.proofs.texts.write_items.Goals as goal

pub returns-clause-written : goal.returns-clause-written
returns-clause-written g c = c.put_front.ensures ∙ written_front c.args.room.now c.args.items.now _ (omega arith)
