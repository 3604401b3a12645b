use Rattle.std.proofs.Common.{◌≡◌, ◌≤◌, ◌++◌, drop, map}
use Rattle.cm_layout.specs.Layouts.{payload_of}
use Rattle.cm_abi_programs.specs.Held.{items_of, spread}
use Rattle.cm_abi_programs.proofs.holding.case_lists.Given as goal

-- with those of the cases to come, these are all; and no more lists were taken than there were cases
abbrev pub invariant-loop-payload : goal.invariant-loop-payload
invariant-loop-payload g l =
    (items_of l.all.items ++ spread (map payload_of (drop l.payload-index l.payloads)) (drop l.next (items_of l.lists)) ≡ spread (map payload_of l.payloads) (items_of l.lists))
    × (l.next ≤ l.payload-index)
