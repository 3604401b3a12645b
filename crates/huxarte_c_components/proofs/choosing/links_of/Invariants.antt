use Rattle.std.proofs.Common.{take}
use Rattle.cm_match_serving.specs.Sets.{spaces_of_all}
use Rattle.huxarte_c_components.specs.Choosing.{ArePlacedBelow, HaveChosen}
use Rattle.huxarte_c_components.proofs.choosing.links_of.Given as goal

-- the choices so far have places, and rows have what they choose
abbrev pub invariant-loop-at : goal.invariant-loop-at
invariant-loop-at l = ArePlacedBelow (spaces_of_all l.components) l.choices l.at
    × HaveChosen (spaces_of_all l.components) (take l.at l.choices) l.rows.items
