use Rattle.std.proofs.Common.{◌≤◌}
use Rattle.cm_match_model.specs.Sights.{seen_before}
use Rattle.cm_match_serving.specs.ExportTables.{HasExports}
use Rattle.cm_match_serving.specs.Sets.{spaces_of_all}
use Rattle.cm_match_serving.proofs.import_candidates.add_seen.Given as goal

abbrev pub invariant-loop-at : goal.invariant-loop-at
invariant-loop-at l = (l.at ≤ l.to)
    × (HasExports l.fn.exports (seen_before (spaces_of_all l.components) l.choices.places.items l.from)
    → HasExports l.exports (seen_before (spaces_of_all l.components) l.choices.places.items l.at))
