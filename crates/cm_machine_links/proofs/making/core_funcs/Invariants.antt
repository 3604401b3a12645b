use Rattle.std.proofs.Common.{take}
use Rattle.cm_validate_spaces.specs.Checked.{spaces_in}
use Rattle.cm_match.specs.Linked.{set_in}
use Rattle.cm_machine_links.specs.Standing.{AllStand}
use Rattle.cm_machine_links.proofs.making.core_funcs.Given as goal

abbrev pub invariant-loop-index : goal.invariant-loop-index
invariant-loop-index l = AllStand (set_in l.linked) l.component (take l.index (spaces_in l.checked).core_funcs) l.functions.items
