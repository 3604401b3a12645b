use Rattle.std.proofs.Common.{◌≡◌, ℕ, List, length}
use Rattle.cm_values.specs.Grammar.{steps}
use Rattle.cm_values.specs.Lists.{next_item}
use Rattle.cm_values.specs.Values.{flags_on}
use Rattle.cm_values.specs.Words.{known}
use Rattle.cm_values.proofs.StepLaws.{StepsGo}
use Rattle.cm_values.proofs.parsed_flags.read_some_flags.Given as goal

-- these places were read behind the first
abbrev pub invariant-loop-place : goal.invariant-loop-place
invariant-loop-place l = (places : List ℕ) × (l.bits ≡ flags_on l.initial.bits places) × StepsGo (next_item 0x7D (known l.labels)) places l.cursor.rest.now ((steps (next_item 0x7D (known l.labels))).reads l.initial.cursor.rest.now)

abbrev pub decreases-loop-place : goal.decreases-loop-place
decreases-loop-place l = length l.cursor.rest.now
