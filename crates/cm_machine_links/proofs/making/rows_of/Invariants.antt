use Rattle.std.proofs.Common.{take, map}
use Rattle.cm_match.specs.Linked.{set_in}
use Rattle.cm_machine_links.specs.Standing.{RowsStand}
use Rattle.cm_machine_links.proofs.making.rows_of.Given as goal

abbrev pub invariant-loop-component : goal.invariant-loop-component
invariant-loop-component l = RowsStand (set_in l.linked) 0 (take l.component (set_in l.linked).spaces) (map (λ v. v.items) l.rows.items)
