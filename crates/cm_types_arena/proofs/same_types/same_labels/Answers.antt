use Rattle.std.proofs.Common.{sym}
use Rattle.cm_types_arena.proofs.SameTypeLemmas.{labels_differ}
use Rattle.cm_types_arena.proofs.same_types.same_labels.Goals as goal

pub returns-then-a-b : goal.returns-then-a-b
returns-then-a-b c = sym (labels_differ c.args.a.now c.args.b.now c.if-a-b.true)
