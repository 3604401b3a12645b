use Rattle.std.proofs.Common.{◌≡◌, take, option_to_list}
use Rattle.std.specs.List.{flat_map}
use Rattle.cm_validate_types.proofs.uses.case_uses.Given as goal

-- those of the cases so far
abbrev pub invariant-loop-case : goal.invariant-loop-case
invariant-loop-case l = l.uses.items ≡ flat_map (λ c. option_to_list c.payload) (take l.case-index l.cases)
