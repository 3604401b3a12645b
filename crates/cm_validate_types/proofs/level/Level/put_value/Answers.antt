use Rattle.std.proofs.Common.{◌∙◌, sym}
use Rattle.cm_validate_types.proofs.MovedLaws.{set_sorts}
use Rattle.cm_validate_types.proofs.level.Level.put_value.Goals as goal

pub invariant_of-self : goal.invariant_of-self
invariant_of-self c = record { sorted = c.args.self.now.sorted ∙ sym (set_sorts c.args.self.now.entries.items c.args.index c.args.placed c.requires) }
