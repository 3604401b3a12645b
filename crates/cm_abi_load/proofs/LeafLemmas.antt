-- Sets of labels.
use Rattle.cm_lemmas.proofs.Numbers.{whole_word}

pub ruleset flags = (whole_word)
