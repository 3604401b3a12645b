use Rattle.std.proofs.Common.{◌≡◌, ◌++◌, map, take}
use Rattle.huxarte_c_components.specs.Plans.{option_part, part_tree}
use Rattle.huxarte_c_components.proofs.planned.add_options.Given as goal

-- the options so far
abbrev pub invariant-loop-option : goal.invariant-loop-option
invariant-loop-option l =
    map part_tree l.parts.items ≡ map part_tree l.initial.parts.items ++ map option_part (take l.option-index l.options)
