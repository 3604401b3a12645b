use Rattle.std.proofs.Common.{◌≡◌, drop, nat_le}
use Rattle.cm_layout_placed.specs.Placed.{layouts_in}
use Rattle.cm_validate_canons.specs.Passing.{widths_at}
use Rattle.cm_validate_canons.proofs.passing.pass_more.Given as goal

abbrev pub invariant-loop-place : goal.invariant-loop-place
invariant-loop-place l =
    nat_le (widths_at (layouts_in l.layouts) (drop l.place-index l.places)) l.room
    ≡ nat_le (widths_at (layouts_in l.layouts) l.places) l.most
