use Rattle.std.proofs.Common.{◌≡◌, drop}
use Rattle.cm_abi_model.specs.Answering.{AreAligned, first_fault}
use Rattle.cm_abi_requests.proofs.answers.check_each.Given as goal

-- the first fault stands among the answers that are left
abbrev pub invariant-loop-i : goal.invariant-loop-i
invariant-loop-i l =
    AreAligned (drop l.i l.requests)
    × (first_fault l.memory_length (drop l.i l.requests) (drop l.i l.answers) ≡ first_fault l.memory_length l.requests l.answers)
