use Rattle.std.proofs.Common.{rules}
use Rattle.cm_match_model.specs.Ranges.{exports_named}
use Rattle.cm_match_serving.specs.ExportTables.{HasExports}
use Rattle.cm_hux_diff.specs.Facing.{greatest}
use Rattle.cm_hux_diff.proofs.offers.Offers.new.Goals as goal

pub invariant_of-result : goal.invariant_of-result
invariant_of-result c =
    let h : HasExports c.in_ok-table.table (exports_named 0 c.in_ok-names.names.items) = search rules in
    let k : HasExports c.in_ok-kept.kept (greatest c.in_ok-names.names.items) = search rules in
    record { told = ∣ h ∣₁; keeps = ∣ k ∣₁ }
