use Rattle.std.proofs.Common.{sym, ◌∙◌, subst}
use Rattle.cm_wit_tokens.specs.Faults.{Fails}
use Rattle.cm_wit_reading.specs.Types.{ty}
use Rattle.cm_wit_reading.proofs.TypeLaws.{no_type_here}
use Rattle.cm_wit_reading.proofs.type_reader.too_deep.Goals as goal

pub returns-else-next_begins_type_in : goal.returns-else-next_begins_type_in
returns-else-next_begins_type_in c = subst (λ e. Fails c.args.cursor.now e ((ty c.args.borrows 0).reads c.args.cursor.now)) (sym c.unexpected.ensures) (no_type_here c.args.borrows c.args.cursor.now (sym c.next_begins_type_in.ensures ∙ c.if-next_begins_type_in.false))
