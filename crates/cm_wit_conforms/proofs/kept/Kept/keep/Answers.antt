use Rattle.cm_wit_conforms.specs.Places.{item_names}
use Rattle.cm_wit_conforms.proofs.KeptLaws.{kept_more}
use Rattle.cm_wit_conforms.proofs.kept.Kept.keep.Goals as goal

pub returns-in_ok-insert-clause-kept : goal.returns-in_ok-insert-clause-kept
returns-in_ok-insert-clause-kept c = kept_more c.args.externs.now c.args.self.now (record { known = c.insert.new.self }) c.args.place c.args.number (λ t. item_names t c.args.items) c.in_ok-known.known c.equal_numbers_have_equal_names.ensures c.requires.number c.requires.names c.in_ok-known.ensures c.in_ok-insert.ensures.updates.0 c.requires.kept
