use Rattle.cm_wit_package.proofs.PrintedFileLaws.{printed_words}
use Rattle.cm_wit_package.proofs.round_laws.words_are_kept.Goals as goal

pub returns : goal.returns
returns c = printed_words
