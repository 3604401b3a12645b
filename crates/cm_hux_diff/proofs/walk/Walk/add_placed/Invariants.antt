use Rattle.std.proofs.Common.{◌≡◌, ◌++◌, map, take}
use Rattle.cm_types_arena.specs.declared.types.Types.{Types}
use Rattle.cm_hux_diff.specs.Views.{entry_view, instance_entries}
use Rattle.cm_hux_diff.proofs.walk.Walk.add_placed.Given as goal

abbrev pub invariant-loop-number : goal.invariant-loop-number
invariant-loop-number l = (w o : Types) → map (entry_view w o) l.self.entries.items ≡ map (entry_view w o) l.fn.self.entries.items ++ take l.number (instance_entries w o l.two)
