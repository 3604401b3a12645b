use Rattle.cm_tool_show.proofs.ShownLaws.{shown_seen, shown_text}
use Rattle.cm_tool_show.proofs.types.show_fields.Goals as goal

pub returns-clause-text : goal.returns-clause-text
returns-clause-text c = shown_text _ c.args.page.now c.add_fields.new.page c.add_fields.result c.add_fields.ensures

pub returns-clause-seen : goal.returns-clause-seen
returns-clause-seen c = shown_seen _ c.args.page.now c.add_fields.new.page c.add_fields.result c.add_fields.ensures

pub returns-clause-over : goal.returns-clause-over
returns-clause-over c = c.add_fields.ensures.over
