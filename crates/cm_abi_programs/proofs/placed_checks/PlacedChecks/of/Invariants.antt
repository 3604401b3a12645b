use Rattle.std.proofs.Common.{◌≡◌, map, take}
use Rattle.cm_layout.specs.Shapes.{layout_at}
use Rattle.cm_types_arena.specs.Places.{types_of}
use Rattle.cm_types_arena.specs.Replaced.{Standing}
use Rattle.cm_layout_placed.specs.Placed.{layouts_in, types_by}
use Rattle.cm_abi_programs.specs.Placed.{AreChecksOf}
use Rattle.cm_abi_programs.proofs.placed_checks.PlacedChecks.of.Given as goal

-- those so far are those of the first types
abbrev pub invariant-loop-place : goal.invariant-loop-place
invariant-loop-place l =
    (s : Standing) → layouts_in l.layouts ≡ map layout_at (types_by s (types_of l.types)) → AreChecksOf (take l.place (types_by s (types_of l.types))) l.checks
