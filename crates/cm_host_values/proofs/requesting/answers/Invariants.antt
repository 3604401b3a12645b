use Rattle.std.proofs.Common.{ℕ, List, ◌++◌, drop}
use Rattle.cm_machine_guests.specs.declared.bump.Bump.{Bump}
use Rattle.cm_host_values.specs.Answers.{AreAnswers, HasNoRoom}
use Rattle.cm_host_values.proofs.requesting.answers.Given as goal

-- what answers the requests that are left answers all, behind the answers so far; and where the
-- range has no room for one that is left, it has none for one of all
abbrev pub invariant-loop-request : goal.invariant-loop-request
invariant-loop-request l =
    ((rest : List ℕ) (new : Bump) → AreAnswers l.regions (drop l.request-index l.requests) rest new → AreAnswers l.initial.regions l.requests (l.answers.items ++ rest) new)
    × (HasNoRoom l.regions (drop l.request-index l.requests) → HasNoRoom l.initial.regions l.requests)
