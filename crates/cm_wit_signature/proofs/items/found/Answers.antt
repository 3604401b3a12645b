use Rattle.std.proofs.Common.{sym, ap, ◌∙◌}
use Rattle.cm_wit_meanings.specs.Places.{scope_in}
use Rattle.cm_wit_signature.proofs.items.found.Goals as goal

pub returns-in-None-clause-nothing : goal.returns-in-None-clause-nothing
returns-in-None-clause-nothing c = λ types. sym (c.in-None.ensures.meaning types ∙ ap (scope_in types c.args.scope.now) c.as_str.ensures.text)
