use Rattle.std.proofs.Common.{rules}
use Rattle.cm_validate_items.proofs.SharedLaws.{valid_shared}
use Rattle.cm_validate_items.proofs.shared.Shared.new.Goals as goal

pub returns-clause-shared : goal.returns-clause-shared
returns-clause-shared c = valid_shared c.args.component.now c.add_sections.new.shared c.resources_are_counted.ensures.before (search rules)
