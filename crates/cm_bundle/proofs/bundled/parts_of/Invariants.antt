use Rattle.std.proofs.Common.{◌≡◌, ◌+◌, map, take, drop}
use Rattle.std.specs.List.{enumerate_from}
use Rattle.cm_match.specs.Linked.{set_in}
use Rattle.cm_match_model.specs.Imports.{all_imports_from}
use Rattle.cm_match_model.specs.Links.{lines_of}
use Rattle.cm_bundle.specs.Trees.{part_tree}
use Rattle.cm_bundle.specs.Bundled.{part_of}
use Rattle.cm_bundle.proofs.Supplying.{AreTexts}
use Rattle.cm_bundle.proofs.bundled.parts_of.Given as goal

abbrev pub invariant-loop-number : goal.invariant-loop-number
invariant-loop-number l =
    (map part_tree l.parts.items ≡ map (part_of (set_in l.linked)) (enumerate_from l.first (take l.number (map (λ f. f.now) l.files))))
    × AreTexts (map part_tree l.parts.items)
    × (l.lines ≡ lines_of (set_in l.linked) (all_imports_from (l.first + l.number) (drop (l.first + l.number) (set_in l.linked).spaces)))
