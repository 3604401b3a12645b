use Rattle.std.proofs.Common.{sym}
use Rattle.huxarte_c_calls.proofs.texts.write_text.Goals as goal

pub returns-clause-text : goal.returns-clause-text
returns-clause-text c = (c.args.text.now, sym c.write_items.ensures.wanted, c.write_items.ensures.written)
