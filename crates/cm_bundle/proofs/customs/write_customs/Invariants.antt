use Rattle.std.proofs.Common.{◌≡◌, ◌++◌, map, drop}
use Rattle.std.specs.List.{flat_map}
use Rattle.cm_bundle.specs.Spelled.{custom_spelled}
use Rattle.cm_bundle.proofs.customs.write_customs.Given as goal

abbrev pub invariant-loop-contents : goal.invariant-loop-contents
invariant-loop-contents l =
    l.out.items ++ flat_map custom_spelled (map (λ c. c.now) (drop l.contents-index l.customs)) ≡ l.fn.out.items ++ flat_map custom_spelled (map (λ c. c.now) l.customs)
