use Rattle.cm_machine_laws.proofs.StepMatches.{steps_tell}
use Rattle.cm_machine_laws.proofs.StepAnswers.{steps_answer}
use Rattle.cm_machine_laws.proofs.told_laws.frames_are_told.Goals as goal

pub returns-clause-told : goal.returns-clause-told
returns-clause-told c = steps_tell

pub returns-clause-answers : goal.returns-clause-answers
returns-clause-answers c = steps_answer
