use Rattle.std.proofs.Common.{take, map}
use Rattle.std.specs.List.{AllZip}
use Rattle.cm_tool_script.specs.Statements.{IsValue}
use Rattle.cm_tool_script.proofs.statement.read_values.Given as goal

abbrev pub invariant-loop-word : goal.invariant-loop-word
invariant-loop-word l = AllZip IsValue (take l.word-index (map (λ w. w.now) l.words)) l.values.items
