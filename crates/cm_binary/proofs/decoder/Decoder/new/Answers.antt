use Rattle.cm_binary.proofs.PieceLaws.{fresh_answers}
use Rattle.cm_binary.proofs.decoder.Decoder.new.Goals as goal

pub returns-clause-answers : goal.returns-clause-answers
returns-clause-answers c = λ bytes answer. rw (c.new.ensures, c.new-2.ensures.items) (fresh_answers bytes answer)
