use Rattle.std.proofs.Common.{arith}
use Rattle.cm_binary.specs.Views.{progress}
use Rattle.cm_binary.proofs.ProgressLaws.{preamble_takes}
use Rattle.cm_binary.proofs.front.Front.read_preamble.Goals as goal

pub returns-clause-ok : goal.returns-clause-ok
returns-clause-ok c = preamble_takes (progress c.args.self.now) c.new-cursor.result.end c.args.bytes.now c.fixed.new.self.rest.now c.requires.first (λ i. omega (arith, c.type_inv.bytes i)) (rw c.new-cursor.ensures.rest at c.in_ok-fixed.ensures.read)
