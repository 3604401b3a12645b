use Rattle.cm_wit_signature.specs.Named.{imported}
use Rattle.cm_wit_tables.specs.DeclaredViews.{instance_view}
use Rattle.cm_wit_signature.proofs.reaching.imports_of.Given as goal
use Rattle.cm_lemmas.proofs.Lists.{Shows}

abbrev pub invariant-loop-number : goal.invariant-loop-number
invariant-loop-number l = Shows imported instance_view l.numbers l.number-index l.out.items
