-- Lists made element by element.
use Rattle.cm_lemmas.proofs.Lists.{makes_all, makes_join, makes_none, makes_push}

pub ruleset list_laws = (makes_none, makes_join, makes_push, makes_all)
