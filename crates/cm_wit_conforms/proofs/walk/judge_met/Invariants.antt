use Rattle.std.proofs.Common.{◌++◌, List, take}
use Rattle.cm_types_arena.specs.declared.types.Types.{Types}
use Rattle.cm_wit_conforms.specs.Comparisons.{Entry}
use Rattle.cm_wit_conforms.specs.Walks.{IsJudged, facing_entries}
use Rattle.cm_wit_conforms.proofs.walk.judge_met.Given as goal

abbrev pub invariant-loop-number : goal.invariant-loop-number
invariant-loop-number l = (h w : Types) (es : List Entry) → IsJudged h w es l.fn.judged → IsJudged h w (es ++ take l.number (facing_entries h w l.facing)) l.judged
