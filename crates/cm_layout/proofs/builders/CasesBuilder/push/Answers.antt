use Rattle.std.proofs.Common.{◌∙◌, codes}
use Rattle.cm_layout.proofs.HeadLaws.{case_taken}
use Rattle.cm_layout.proofs.LayoutLemmas.{more_payloads}
use Rattle.cm_layout.proofs.builders.CasesBuilder.push.Goals as goal

pub returns-clause-ok : goal.returns-clause-ok
returns-clause-ok c all rest label t b e =
    let s = c.beside-so_far.ensures in
    record {
      numbers = case_taken label (codes "") t all rest c.args.self.now.so_far c.so_far.result c.beside-so_far.result b.numbers (c.so_far.ensures t e) s.size s.align s.width;
      payloads = more_payloads label t rest c.args.payload c.args.self.now.payloads.items c.push.new.self.items e c.in_ok-push.ensures.items ∙ b.payloads;
    }
