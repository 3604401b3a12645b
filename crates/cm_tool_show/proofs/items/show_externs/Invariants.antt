use Rattle.cm_types_arena.specs.Listed.{externs_listed}
use Rattle.cm_tool_show.specs.Written.{Wrote}
use Rattle.cm_tool_show.proofs.LineLaws.{first_lines, word_lines}
use Rattle.cm_tool_show.proofs.items.show_externs.Given as goal

abbrev pub invariant-loop-place : goal.invariant-loop-place
invariant-loop-place l = Wrote (first_lines (word_lines l.word) (externs_listed l.types l.externs) l.place) l.fn.page l.page
