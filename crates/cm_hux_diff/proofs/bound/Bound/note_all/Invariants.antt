use Rattle.std.proofs.Common.{◌≡◌, ℕ, map, take}
use Rattle.std.specs.Option.{option_or}
use Rattle.cm_types_arena.specs.declared.types.Types.{Types}
use Rattle.cm_hux_diff.specs.Breaking.{bound}
use Rattle.cm_hux_diff.specs.Views.{bound_in, entry_view, standing_of}
use Rattle.cm_hux_diff.proofs.bound.Bound.note_all.Given as goal

abbrev pub invariant-loop-entry : goal.invariant-loop-entry
invariant-loop-entry l = (w o : Types) (n : ℕ) → bound_in l.self n ≡ option_or (bound_in l.fn.self n) (bound (standing_of l.offered) (map (entry_view w o) (take l.entry-index l.entries)) n)
