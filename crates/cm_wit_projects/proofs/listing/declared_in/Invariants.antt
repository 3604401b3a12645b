use Rattle.std.proofs.Common.{[]}
use Rattle.cm_lemmas.proofs.Lists.{Makes}
use Rattle.cm_wit_projects.specs.Listed.{declared_from}
use Rattle.cm_wit_projects.specs.ListedViews.{declared_view}
use Rattle.cm_wit_projects.specs.Views.{unit_view}
use Rattle.cm_wit_projects.proofs.listing.declared_in.Given as goal

abbrev pub invariant-loop-number : goal.invariant-loop-number
invariant-loop-number l = Makes unit_view (λ k. declared_from k) declared_view l.units l.number [] l.out.items
