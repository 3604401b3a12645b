use Rattle.std.proofs.Common.{Some, None, sym, ap, ◌∙◌}
use Rattle.std.specs.Option.{option_map}
use Rattle.cm_validate_items.specs.Ranges.{resource_def}
use Rattle.cm_validate_entries.proofs.StayLaws.{own_number}
use Rattle.cm_validate_entries.proofs.spaces.ComponentSpaces.own_fault.Goals as goal

pub returns-in-None : goal.returns-in-None
returns-in-None c = λ types funcs s r.
    sym (own_number types funcs c.args.self.now s c.args.number None r (sym (ap (option_map resource_def) c.in-None.is) ∙ c.get.ensures))

pub returns-in-Some : goal.returns-in-Some
returns-in-Some c = λ types funcs s r.
    c.brought_fault.ensures ∙ sym (own_number types funcs c.args.self.now s c.args.number (Some c.in-Some.resource) r (sym (ap (option_map resource_def) c.in-Some.is) ∙ c.get.ensures))
