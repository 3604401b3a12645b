use Rattle.std.proofs.Common.{arith, map, ap, ◌∙◌}
use Rattle.std.proofs.lemmas.List.{take_all}
use Rattle.cm_wit_meanings.specs.Places.{scope_in}
use Rattle.cm_wit_signature.specs.Fronts.{front_resource}
use Rattle.cm_wit_signature.proofs.ItemListLaws.{map_taken}
use Rattle.cm_wit_signature.proofs.resources.front_resources.Goals as goal

pub loop-front-preserved : goal.loop-front-preserved
loop-front-preserved c = λ types.
    map_taken (front_resource (scope_in types c.args.scope.now)) c.args.fronts.now c.loop-front.front-index c.front-item.result c.loop-front.resources.items c.push.new.self.items c.front_resource.result (omega arith) c.front-item.is (c.loop-front.invariant types) (c.front_resource.ensures types) c.in_ok-push.ensures.items

pub returns : goal.returns
returns c = λ types. c.loop-front.invariant types ∙ ap (map (front_resource (scope_in types c.args.scope.now))) (take_all c.loop-front.front-index c.args.fronts.now (omega arith))
