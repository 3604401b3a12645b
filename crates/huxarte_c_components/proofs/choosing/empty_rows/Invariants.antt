use Rattle.std.proofs.Common.{◌≡◌, map, take}
use Rattle.cm_validate_spaces.specs.Checked.{spaces_in}
use Rattle.huxarte_c_components.proofs.ChoiceLaws.{blank_row}
use Rattle.huxarte_c_components.proofs.choosing.empty_rows.Given as goal

-- each component so far has a row in which nothing is chosen
abbrev pub invariant-loop-component : goal.invariant-loop-component
invariant-loop-component l = map (λ r. r.items) l.rows.items ≡ map (λ x. blank_row (spaces_in x)) (take l.component-index l.components)
