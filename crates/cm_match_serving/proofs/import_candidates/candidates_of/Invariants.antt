use Rattle.std.proofs.Common.{◌≡◌, map, take}
use Rattle.cm_match_model.specs.Sights.{seen_before}
use Rattle.cm_match_serving.specs.Candidates.{candidates_in, each_from}
use Rattle.cm_match_serving.specs.ExportTables.{HasExports}
use Rattle.cm_match_serving.specs.Sets.{set_by, spaces_of_all}
use Rattle.cm_match_serving.proofs.Seeing.{group_before}
use Rattle.cm_match_serving.proofs.import_candidates.candidates_of.Given as goal

-- the table has what is seen before the group of the component before, and there is a row for each
-- component so far
abbrev pub invariant-loop-at : goal.invariant-loop-at
invariant-loop-at l = (l.first ≡ group_before l.choices.places.items l.at)
    × HasExports l.exports (seen_before (spaces_of_all l.components) l.choices.places.items l.first)
    × (map (λ row. row.items) l.rows.items ≡ each_from (candidates_in (set_by l.components l.choices)) 0 (take l.at (spaces_of_all l.components)))
