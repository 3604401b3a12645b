use Rattle.std.proofs.Common.{◌≡◌, ◌++◌, drop}
use Rattle.cm_abi_model.specs.Answering.{regions_of}
use Rattle.cm_abi_requests.proofs.answers.part_regions.Given as goal

-- the regions so far and those of what is left are all of them
abbrev pub invariant-loop-i : goal.invariant-loop-i
invariant-loop-i l = l.regions.items ++ regions_of (drop l.i l.requests) (drop l.i l.answers) ≡ regions_of l.requests l.answers
