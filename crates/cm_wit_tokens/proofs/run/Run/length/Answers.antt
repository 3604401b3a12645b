use Rattle.std.proofs.Common.{arith}
use Rattle.cm_wit_tokens.specs.declared.run.Run.TheVariants as run
use Rattle.cm_wit_tokens.proofs.RunLaws.{run_within}
use Rattle.cm_wit_tokens.proofs.run.Run.length.Goals as goal

pub returns-in-Word-clause-within : goal.returns-in-Word-clause-within
returns-in-Word-clause-within c = omega (arith, c.word_length.ensures, run_within run.Word c.args.text.now)

pub returns-in-Line-clause-within : goal.returns-in-Line-clause-within
returns-in-Line-clause-within c = omega (arith, c.line_length.ensures, run_within run.Line c.args.text.now)

pub returns-in-Digits-clause-within : goal.returns-in-Digits-clause-within
returns-in-Digits-clause-within c = omega (arith, c.length_of_others.ensures, run_within c.args.self c.args.text.now)
