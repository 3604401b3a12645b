use Rattle.std.proofs.Common.{◌≡◌, ◌++◌, arith}
use Rattle.std.proofs.lemmas.Grind.{common_steps}
use Rattle.cm_binary.proofs.ComeLaws.{come_more, taken_ok, taken_err}
use Rattle.cm_binary.proofs.gathered.Gathered.take.Goals as goal

pub returns-then-len-self-clause-ok : goal.returns-then-len-self-clause-ok
returns-then-len-self-clause-ok c = λ before come.
    let grown : c.extend_from_slice.new.self.items ≡ c.args.self.now.unfed.items ++ c.args.bytes.now = grind (arith, common_steps) in
    rw grown (come_more c.args.self.now.decoder c.args.self.now.unfed.items before c.args.bytes.now (λ i. omega (arith, c.type_inv.bytes i)) come)

pub returns-clause-ok : goal.returns-clause-ok
returns-clause-ok c =
    let grown : c.extend_from_slice.new.self.items ≡ c.args.self.now.unfed.items ++ c.args.bytes.now = grind (arith, common_steps) in
    taken_ok c.args.self.now.decoder c.feed_front.new.self.decoder c.args.self.now.unfed.items c.feed_front.new.self.unfed.items c.extend_from_slice.new.self.items c.args.bytes.now c.feed_front.result grown (λ i. omega (arith, c.type_inv.bytes i)) c.feed_front.ensures.ok

pub returns-clause-err : goal.returns-clause-err
returns-clause-err c =
    let grown : c.extend_from_slice.new.self.items ≡ c.args.self.now.unfed.items ++ c.args.bytes.now = grind (arith, common_steps) in
    taken_err c.args.self.now.decoder c.feed_front.new.self.decoder c.args.self.now.unfed.items c.feed_front.new.self.unfed.items c.extend_from_slice.new.self.items c.args.bytes.now c.feed_front.result grown (λ i. omega (arith, c.type_inv.bytes i)) c.feed_front.ensures.err
