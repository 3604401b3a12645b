use Rattle.cm_abi_requests.proofs.RegionLaws.{SoFar}
use Rattle.cm_abi_requests.proofs.regions.are_in_turn.Given as goal

abbrev pub invariant-loop-region : goal.invariant-loop-region
invariant-loop-region l = SoFar l.regions l.end l.region-index
