use Rattle.std.proofs.Common.{take}
use Rattle.cm_types_arena.specs.Places.{funcs_of}
use Rattle.cm_machine_links.specs.Standing.{AreCallTypes}
use Rattle.cm_machine_links.proofs.passing.call_types.Given as goal

abbrev pub invariant-loop-func : goal.invariant-loop-func
invariant-loop-func g l = AreCallTypes (g.R.Replacement.replacement l.by) (take l.func (funcs_of l.types)) l.all.items
