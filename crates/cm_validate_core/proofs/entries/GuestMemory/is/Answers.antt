use Rattle.cm_validate_core.proofs.OptionLaws.{other_there, same_there}
use Rattle.cm_validate_core.proofs.entries.GuestMemory.is.Goals as goal

pub returns-then-self-other : goal.returns-then-self-other
returns-then-self-other c = λ names m n. same_there names c.args.self c.args.other c.if-self-other.true m n

pub returns-else-self-other : goal.returns-else-self-other
returns-else-self-other c = λ names m n. other_there c.args.self c.args.other c.if-self-other.false
