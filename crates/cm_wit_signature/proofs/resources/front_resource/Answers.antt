use Rattle.std.proofs.Common.{sym, ap, ◌∙◌}
use Rattle.cm_wit_meanings.specs.Places.{scope_in}
use Rattle.cm_wit_signature.specs.Fronts.{front_resource}
use Rattle.cm_wit_signature.proofs.resources.front_resource.Goals as goal

pub returns-in-Method : goal.returns-in-Method
returns-in-Method c = λ types. c.resource_named.ensures types ∙ sym (ap (front_resource (scope_in types c.args.scope.now)) c.in-Method.is)

pub returns-in-Static : goal.returns-in-Static
returns-in-Static c = λ types. c.resource_named-in-Static.ensures types ∙ sym (ap (front_resource (scope_in types c.args.scope.now)) c.in-Static.is)

pub returns-in-Constructor : goal.returns-in-Constructor
returns-in-Constructor c = λ types. c.resource_named-in-Constructor.ensures types ∙ sym (ap (front_resource (scope_in types c.args.scope.now)) c.in-Constructor.is)
