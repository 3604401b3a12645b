use Rattle.huxarte_c.proofs.SetLaws.{not_stepped, stepped}
use Rattle.huxarte_c.proofs.moving.step.Goals as goal

pub returns-in-Ok-clause-step : goal.returns-in-Ok-clause-step
returns-in-Ok-clause-step c =
    let is = c.in-Ok.ensures in
    stepped c.args.set.now.kept c.put.new.self.kept _ _ _ c.args.made.now c.in-Ok.event c.in-Some.ensures.taken c.deref_mut.ensures.value c.put.ensures is.acts is.steps is.written

pub returns-in-Err-clause-refused : goal.returns-in-Err-clause-refused
returns-in-Err-clause-refused c =
    not_stepped c.args.set.now.kept _ _ c.args.made.now c.in-Err.misuse _ c.in-Some.ensures.taken c.deref_mut.ensures.value c.in-Err.ensures.refused c.refusal_of.ensures
