use Rattle.cm_machine_laws.proofs.Going as going
use Rattle.cm_machine_laws.proofs.told_laws.what_goes_on.Goals as goal

pub returns-clause-acting : goal.returns-clause-acting
returns-clause-acting c = going.acting c.histories_are_told.ensures

pub returns-clause-standing : goal.returns-clause-standing
returns-clause-standing c = going.standing c.histories_are_told.ensures

pub returns-clause-starts : goal.returns-clause-starts
returns-clause-starts c = going.starts

pub returns-clause-begins : goal.returns-clause-begins
returns-clause-begins c = going.begins_where_nothing_goes_on c.histories_are_told.ensures

pub returns-clause-begin_refusals : goal.returns-clause-begin_refusals
returns-clause-begin_refusals c = going.begin_refused c.histories_are_told.ensures

pub returns-clause-answers : goal.returns-clause-answers
returns-clause-answers c = going.event_answers_its_move c.frames_are_told.ensures.answers c.histories_are_valid.ensures c.histories_are_told.ensures

pub returns-clause-ends : goal.returns-clause-ends
returns-clause-ends c = going.ends_where_nothing_goes_on c.histories_are_told.ensures

pub returns-clause-closes : goal.returns-clause-closes
returns-clause-closes c = going.closes_by_traps

pub returns-clause-none_closed_acts : goal.returns-clause-none_closed_acts
returns-clause-none_closed_acts c = going.none_closed_acts c.histories_are_valid.ensures c.histories_are_told.ensures

pub returns-clause-begins_by_call : goal.returns-clause-begins_by_call
returns-clause-begins_by_call c = going.begins_by_call c.histories_are_valid.ensures c.histories_are_told.ensures

pub returns-clause-runs : goal.returns-clause-runs
returns-clause-runs c = going.runs
