use Rattle.std.proofs.Common.{subst}
use Rattle.cm_wit_conforms.specs.Known.{AreKnown}
use Rattle.cm_wit_conforms.specs.Places.{item_names}
use Rattle.cm_wit_conforms.specs.Walks.{of_signature}
use Rattle.cm_wit_conforms.proofs.walk.Walk.add_items.Goals as goal

pub add_met-requires : goal.add_met-requires
add_met-requires c = λ t u. c.in_ok-meeting-in-HaveImports.ensures u (item_names t c.args.facing.items) (subst (λ l. AreKnown (item_names t (of_signature l c.args.facing.items c.args.facing.others)) c.args.known.now) c.in-HaveImports.is (c.requires t))
