use Rattle.cm_match_model.proofs.BroughtLaws.{before_all, items_ranged, whole}
use Rattle.cm_match_model.proofs.alike_laws.imports_bring_in_order.Goals as goal

pub returns-clause-before : goal.returns-clause-before
returns-clause-before c = before_all c.resources_are_counted.ensures.before (items_ranged c.moves_of_what_is_counted.ensures.types c.moves_of_what_is_counted.ensures.funcs)

pub returns-clause-whole : goal.returns-clause-whole
returns-clause-whole c = whole c.resources_are_counted.ensures.before (items_ranged c.moves_of_what_is_counted.ensures.types c.moves_of_what_is_counted.ensures.funcs)
