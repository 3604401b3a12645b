use Rattle.std.proofs.Common.{ap, ◌∙◌, sym}
use Rattle.std.specs.Option.{option_map}
use Rattle.cm_names.specs.Keys.{key_view}
use Rattle.cm_wit_meanings.specs.Places.{table_in}
use Rattle.cm_wit_tables.specs.Declarations.{brought}
use Rattle.cm_wit_tables.specs.Tables.{declared_meaning}
use Rattle.cm_wit_tables.specs.Listings.{declared}
use Rattle.cm_wit_tables.proofs.listing.Listing.brought.Goals as goal

pub returns-in-Some-clause-meaning : goal.returns-in-Some-clause-meaning
returns-in-Some-clause-meaning c = λ types k l. c.named.ensures.meaning types ∙ ap (λ o. declared_meaning (declared c.args.self.now) (table_in types c.args.table.now) k l (brought (option_map key_view o))) (sym c.in-Some.is)
