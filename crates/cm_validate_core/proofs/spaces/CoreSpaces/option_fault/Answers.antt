use Rattle.cm_validate_core.proofs.spaces.CoreSpaces.option_fault.Goals as goal

pub returns-in-Memory : goal.returns-in-Memory
returns-in-Memory c = λ made s r. rw (c.in-Memory.is) (c.memory_fault.ensures made s r)

pub returns-in-Realloc : goal.returns-in-Realloc
returns-in-Realloc c = λ made s r. rw (c.in-Realloc.is) (c.guest_fault.ensures made s r)

pub returns-in-PostReturn : goal.returns-in-PostReturn
returns-in-PostReturn c = λ made s r. rw (c.in-PostReturn.is) (c.guest_fault-in-PostReturn.ensures made s r)
