use Rattle.std.proofs.Common.{arith, ◌∙◌, ◌++◌, ◌∷◌, [], sym, ap, List}
use Rattle.cm_wit_graph.specs.Walks.{Entry}
use Rattle.cm_wit_graph.proofs.WaitLaws.{list_here, list_other, list_is}
use Rattle.cm_wit_graph.proofs.waiting.wait_for.Goals as goal

pub returns-in_err-push-clause-others : goal.returns-in_err-push-clause-others
returns-in_err-push-clause-others c = λ j d. list_other c.args.waiting.now.items c.args.node j c.push.new.self d

pub returns-clause-here : goal.returns-clause-here
returns-clause-here c =
    list_here c.args.waiting.now.items c.args.node c.push.new.self (omega (arith, c.requires))
    ∙ (c.in_ok-push.ensures.items ∙ ap (λ (l : List Entry). l ++ c.args.entry ∷ []) (sym (list_is c.args.waiting.now.items c.args.node c.index_mut.result.now (omega (arith, c.requires)) c.index_mut.ensures.value)))

pub returns-clause-others : goal.returns-clause-others
returns-clause-others c = λ j d. list_other c.args.waiting.now.items c.args.node j c.push.new.self d
