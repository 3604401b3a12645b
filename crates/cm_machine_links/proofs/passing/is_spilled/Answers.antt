use Rattle.std.proofs.Common.{ap, sym}
use Rattle.std.specs.Prelude.{nat_lt}
use Rattle.cm_layout.specs.declared.heads.Head.{Head}
use Rattle.cm_machine_links.proofs.passing.is_spilled.Goals as goal
use Rattle.cm_layout.proofs.LayoutLemmas.{seen_head}

pub returns : goal.returns
returns c = ap (λ (h : Head). nat_lt c.args.most h.width) (sym (seen_head c.args.layout.now))
