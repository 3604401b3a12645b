use Rattle.std.proofs.Common.{◌≡◌, length, map, take, true}
use Rattle.std.specs.List.{flat_map, list_all}
use Rattle.cm_binary_model.specs.Measures.{saturate}
use Rattle.cm_binary_model.proofs.part.length_of_all.Given as goal

abbrev pub invariant-loop-part : goal.invariant-loop-part
invariant-loop-part g l =
    (l.total ≡ saturate (length (flat_map g.T.Part.spelling (map g.T.Part.tree (take l.part-index l.parts)))))
    × (list_all g.T.Part.holds (map g.T.Part.tree (take l.part-index l.parts)) ≡ true)
