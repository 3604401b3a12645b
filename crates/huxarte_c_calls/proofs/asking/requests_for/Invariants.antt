use Rattle.std.proofs.Common.{◌≡◌, ℕ, List, length, map, take}
use Rattle.cm_abi_model.specs.Answered.{IsAnswered, all_requests}
use Rattle.cm_abi_model.specs.Scanned.{OnlyAsked}
use Rattle.huxarte_c_calls.specs.Asking.{row_of}
use Rattle.huxarte_c_calls.proofs.asking.requests_for.Given as goal

-- the requests so far are answered, and told; nothing else is changed
abbrev pub invariant-loop : goal.invariant-loop
invariant-loop l =
    ((given : List ℕ) × IsAnswered l.kept.parts given × (l.requests.items ≡ map row_of (take (length given) (all_requests l.kept.parts))))
    × OnlyAsked l.fn.kept l.kept
