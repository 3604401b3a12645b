use Rattle.std.proofs.Common.{sym, ap, ◌∙◌}
use Rattle.std.specs.Option.{option_and_then}
use Rattle.cm_wit_meanings.specs.declared.scope.Meaning as code
use Rattle.cm_wit_meanings.specs.Places.{meaning_in, scope_in}
use Rattle.cm_wit_meanings.specs.Scopes.{as_resource}
use Rattle.cm_wit_signature.proofs.resources.resource_named.Goals as goal

pub returns-in-Some-Resource : goal.returns-in-Some-Resource
returns-in-Some-Resource c = λ types.
    sym (ap (λ (m : code.Meaning). as_resource (meaning_in types m)) c.in-Some-Resource.field-0-is)
    ∙ ap (option_and_then as_resource) (c.in-Some-Resource.ensures.meaning types ∙ ap (scope_in types c.args.scope.now) c.as_str.ensures.text)

pub returns-in-Some-Value : goal.returns-in-Some-Value
returns-in-Some-Value c = λ types.
    sym (ap (λ (m : code.Meaning). as_resource (meaning_in types m)) c.in-Some-Value.field-0-is)
    ∙ ap (option_and_then as_resource) (c.in-Some-Value.ensures.meaning types ∙ ap (scope_in types c.args.scope.now) c.as_str.ensures.text)

pub returns-in-None : goal.returns-in-None
returns-in-None c = λ types. ap (option_and_then as_resource) (c.in-None.ensures.meaning types ∙ ap (scope_in types c.args.scope.now) c.as_str.ensures.text)
