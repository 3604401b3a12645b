use Rattle.std.proofs.Common.{map, take}
use Rattle.cm_match_serving.specs.Sets.{spaces_of_all}
use Rattle.cm_bundle.specs.Trees.{group_tree, part_tree}
use Rattle.cm_bundle_links.specs.Links.{AreRows}
use Rattle.cm_bundle_links.specs.Tables.{AreTables}
use Rattle.cm_bundle_links.proofs.links.links_of.Given as goal

-- the components so far have tables, and their imports have links
abbrev pub invariant-loop-number : goal.invariant-loop-number
invariant-loop-number l = AreTables (take l.number (spaces_of_all l.components)) l.tables.items
    × AreRows (map group_tree l.bundle.front.items) (take l.number (map part_tree l.bundle.parts.items)) (take l.number (spaces_of_all l.components)) (map (λ r. r.items) l.rows.items)
