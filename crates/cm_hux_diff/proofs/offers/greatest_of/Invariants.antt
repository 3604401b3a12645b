use Rattle.std.proofs.Common.{take}
use Rattle.std.specs.Prelude.{filter}
use Rattle.cm_match_model.specs.Ranges.{exports_named}
use Rattle.cm_match_serving.specs.ExportTables.{HasExports}
use Rattle.cm_hux_diff.specs.Facing.{is_greatest}
use Rattle.cm_hux_diff.proofs.offers.greatest_of.Given as goal

abbrev pub invariant-loop-place : goal.invariant-loop-place
invariant-loop-place l = HasExports l.kept (filter (is_greatest l.names) (exports_named 0 (take l.place l.names)))
