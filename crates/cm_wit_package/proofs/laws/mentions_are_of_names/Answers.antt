use Rattle.cm_wit_package.proofs.MentionLaws.{mentions_fit}
use Rattle.cm_wit_package.proofs.laws.mentions_are_of_names.Goals as goal

pub returns : goal.returns
returns c = λ f text e. mentions_fit f text (c.words_are_kept.ensures f text e)
