use Rattle.std.proofs.Common.{◌≡◌, ℕ, List, map, take}
use Rattle.cm_types_arena.specs.declared.types.Types.{Types}
use Rattle.cm_types_arena.specs.Listed.{externs_listed}
use Rattle.cm_wit_conforms.specs.Places.{extern_names}
use Rattle.cm_hux_diff.specs.Held.{entries_from}
use Rattle.cm_hux_diff.specs.Views.{entry_view}
use Rattle.cm_hux_diff.specs.declared.facing.Face.{Face}
use Rattle.cm_hux_diff.proofs.walk.entries_of.Given as goal

abbrev pub invariant-loop-place : goal.invariant-loop-place
invariant-loop-place l = (w o : Types) (facing : List ℕ → Face) → l.faces ≡ map facing (extern_names w l.wanted) → map (entry_view w o) l.walk.entries.items ≡ entries_from facing (externs_listed o l.offered) 0 (take l.place (externs_listed w l.wanted))
