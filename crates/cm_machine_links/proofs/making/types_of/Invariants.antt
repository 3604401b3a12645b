use Rattle.std.proofs.Common.{take, map}
use Rattle.cm_match.specs.Linked.{components_in, set_in}
use Rattle.cm_machine_links.specs.Standing.{AreTypesOf}
use Rattle.cm_machine_links.proofs.making.types_of.Given as goal

abbrev pub invariant-loop-component : goal.invariant-loop-component
invariant-loop-component l = AreTypesOf (set_in l.linked) 0 (take l.component (components_in l.linked)) (map (λ v. v.items) l.types.items)
