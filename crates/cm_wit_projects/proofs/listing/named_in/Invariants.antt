use Rattle.std.proofs.Common.{[]}
use Rattle.cm_lemmas.proofs.Lists.{Makes}
use Rattle.cm_wit_projects.specs.Listed.{named_from}
use Rattle.cm_wit_projects.specs.ListedViews.{named_path_view}
use Rattle.cm_wit_projects.specs.Views.{unit_view}
use Rattle.cm_wit_projects.proofs.listing.named_in.Given as goal

abbrev pub invariant-loop-number : goal.invariant-loop-number
invariant-loop-number l = Makes unit_view (λ k. named_from k) named_path_view l.units l.number [] l.out.items
