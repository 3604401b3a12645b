-- What a contract sees of a session.
use Rattle.cm_match_model.specs.Imports.{LinkSet}
use Rattle.cm_machine.specs.cm_match.Linked.{set_in}
use Rattle.cm_machine.specs.cm_machine_set.Running.{RunningSet}
use Rattle.cm_live.specs.declared.session.Session.{Session}

-- the components that were linked, and what their imports see
abbrev pub linked_of : Session → LinkSet
linked_of s = set_in s.linked.now

-- the set that is played
abbrev pub set_of : Session → RunningSet
set_of s = s.played.set
