use Rattle.cm_tool_show.specs.Counted.{case_piece, counted}
use Rattle.cm_tool_show.proofs.PageLaws.{Adds}
use Rattle.cm_tool_show.proofs.ListLaws.{field_piece, member, part_piece}
use Rattle.cm_tool_show.proofs.types.+types.Given as goal

abbrev pub invariant-add_fields-loop-index : goal.invariant-add_fields-loop-index
invariant-add_fields-loop-index l = Adds (member (field_piece (counted l.by))) l.fields l.index l.initial.page l.page

abbrev pub invariant-show_parts-loop-index : goal.invariant-show_parts-loop-index
invariant-show_parts-loop-index l = Adds (member (part_piece (counted l.by))) l.parts l.index l.initial.page l.page

abbrev pub invariant-show_cases-loop-index : goal.invariant-show_cases-loop-index
invariant-show_cases-loop-index l = Adds (member (case_piece (counted l.by))) l.cases l.index l.initial.page l.page
