use Rattle.cm_wit_package.proofs.PrintedFileLaws.{printed_tokens, printed_read}
use Rattle.cm_wit_package.proofs.round_laws.printed_file_is_read.Goals as goal

pub returns-clause-tokens : goal.returns-clause-tokens
returns-clause-tokens c = λ f text e. (printed_tokens f text e).0

pub returns-clause-to_end : goal.returns-clause-to_end
returns-clause-to_end c = λ f text e. (printed_tokens f text e).1

pub returns-clause-read : goal.returns-clause-read
returns-clause-read c = printed_read
