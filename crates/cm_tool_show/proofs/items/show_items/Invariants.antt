use Rattle.cm_types_arena.specs.Listed.{by_of, items_listed}
use Rattle.cm_tool_show.specs.Written.{Wrote}
use Rattle.cm_tool_show.proofs.LineLaws.{brought_line, first_lines}
use Rattle.cm_tool_show.proofs.items.show_items.Given as goal

abbrev pub invariant-loop-place : goal.invariant-loop-place
invariant-loop-place l = Wrote (first_lines (brought_line (by_of l.items)) (items_listed l.types l.items) l.place) l.fn.page l.page
