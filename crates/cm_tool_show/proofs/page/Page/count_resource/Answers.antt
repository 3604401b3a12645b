use Rattle.std.proofs.Common.{map, ap, ◌∙◌}
use Rattle.cm_tool_show.specs.Pages.{key_resource}
use Rattle.cm_tool_show.proofs.KeyLaws.{same_seen}
use Rattle.cm_tool_show.proofs.page.Page.count_resource.Goals as goal

pub returns-clause-seen : goal.returns-clause-seen
returns-clause-seen c =
    ap (map key_resource) c.in_ok-insert.ensures.keys ∙ same_seen (c.args.id.component, c.args.id.number) c.args.self.now.seen.keys
