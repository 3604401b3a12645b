-- A list made element by element.
use Rattle.cm_lemmas.proofs.Lists.{shows_end, shows_push, shows_start}

pub ruleset file_laws = (shows_start, shows_push, shows_end)
