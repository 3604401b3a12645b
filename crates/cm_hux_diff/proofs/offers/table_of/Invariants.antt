use Rattle.std.proofs.Common.{take}
use Rattle.cm_match_model.specs.Ranges.{exports_named}
use Rattle.cm_match_serving.specs.ExportTables.{HasExports}
use Rattle.cm_hux_diff.proofs.offers.table_of.Given as goal

abbrev pub invariant-loop-place : goal.invariant-loop-place
invariant-loop-place l = HasExports l.table (exports_named 0 (take l.place l.names))
