use Rattle.std.proofs.Common.{◌≡◌, ◌≤◌, ◌++◌, drop, length, vec_capacity}
use Rattle.cm_abi_model.specs.Placing.{regions_at}
use Rattle.cm_abi_model.specs.RecordRequests.{AreAskable}
use Rattle.cm_abi_requests.proofs.placing.put_regions.Given as goal

-- the regions so far, and those of what is left, are all; what is left can be asked for, and there is room for it
abbrev pub invariant-loop-i : goal.invariant-loop-i
invariant-loop-i l =
    (l.regions.items ++ regions_at (drop l.i l.records) (drop l.i l.places) ≡ regions_at l.records l.places)
    × AreAskable (drop l.i l.records)
    × (length l.regions.items ≡ l.i)
    × (length l.records ≤ vec_capacity l.regions)
    × (vec_capacity l.regions ≡ vec_capacity l.fn.regions)
