use Rattle.std.proofs.Common.{ap, ◌∙◌, sym, subst, List, Option}
use Rattle.cm_wit_meanings.specs.declared.scope.Meaning as code
use Rattle.cm_wit_meanings.specs.Places.{ArePlaced}
use Rattle.cm_wit_meanings.specs.Scopes.{Scope}
use Rattle.cm_wit_tables.specs.Filled.{AreWithin}
use Rattle.cm_wit_tables.proofs.EntryLaws.{scope_is, scope_within}
use Rattle.cm_wit_tables.proofs.listing.Listing.named.Goals as goal

pub returns-clause-meaning : goal.returns-clause-meaning
returns-clause-meaning c = λ types. c.find.ensures.meaning types ∙ ap (λ (s : Scope). s c.args.name.now) (scope_is types c.args.self.now c.scope.result c.args.table.now c.args.list c.requires c.scope.ensures.names c.scope.ensures.table c.scope.ensures.list)

pub returns-clause-placed : goal.returns-clause-placed
returns-clause-placed c = λ count h. c.find.ensures.placed count (subst (λ (t : List (Option code.Meaning)). ArePlaced count t) (sym c.scope.ensures.table) h)

pub returns-clause-within : goal.returns-clause-within
returns-clause-within c = λ types h. scope_within types c.scope.result c.args.name.now c.find.result (subst (λ (t : List (Option code.Meaning)). AreWithin types t) (sym c.scope.ensures.table) h) (c.find.ensures.meaning types)
