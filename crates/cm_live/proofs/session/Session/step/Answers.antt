use Rattle.cm_live.proofs.session.Session.step.Goals as goal

pub returns-in-Ok-clause-moves : goal.returns-in-Ok-clause-moves
returns-in-Ok-clause-moves c = c.in-Ok.ensures.steps.history

pub returns-in-Err-clause-refused : goal.returns-in-Err-clause-refused
returns-in-Err-clause-refused c =
    c.fault_of.ensures c.args.self.now.played.set c.args.made.now c.in-Err.ensures.refused
