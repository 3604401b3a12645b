-- The parts of texts.
use Rattle.std.proofs.Common.{append_assoc}
use Rattle.std.proofs.lemmas.List.{map-append}

pub ruleset text_laws = (append_assoc, map-append)
