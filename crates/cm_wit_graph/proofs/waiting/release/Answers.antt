use Rattle.std.proofs.Common.{arith, ◌∙◌, ap}
use Rattle.std.specs.Global.{Vec}
use Rattle.cm_wit_graph.specs.Walks.{Entry}
use Rattle.cm_wit_graph.proofs.WaitLaws.{list_here, list_other}
use Rattle.cm_wit_graph.proofs.waiting.release.Goals as goal

pub returns-clause-here : goal.returns-clause-here
returns-clause-here c = list_here c.args.waiting.now.items c.args.node c.replace.new.dest (omega (arith, c.requires)) ∙ (ap (λ (v : Vec Entry). v.items) c.replace.ensures.after ∙ c.new.ensures.items)

pub returns-clause-others : goal.returns-clause-others
returns-clause-others c = λ j d. list_other c.args.waiting.now.items c.args.node j c.replace.new.dest d
