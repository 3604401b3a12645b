use Rattle.huxarte_c_calls.proofs.asking.asked.Goals as goal

pub returns-in-Ok-clause-rows : goal.returns-in-Ok-clause-rows
returns-in-Ok-clause-rows c = λ types is. c.asked_by.ensures.rows c.args.handles.now types c.in-Ok.ensures.handles is

pub returns-in-Ok-clause-refused : goal.returns-in-Ok-clause-refused
returns-in-Ok-clause-refused c = λ types is. c.asked_by.ensures.refused c.args.handles.now types c.in-Ok.ensures.handles is
