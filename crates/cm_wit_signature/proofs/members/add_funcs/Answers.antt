use Rattle.std.proofs.Common.{arith, ◌++◌, map, refl}
use Rattle.cm_wit_reading.specs.Views.{resource_func_tree}
use Rattle.cm_wit_signature.specs.Fronts.{IsFronted, func_front, resource_fronts}
use Rattle.cm_wit_signature.specs.Members as spec
use Rattle.cm_wit_signature.specs.MemberViews.{member_view}
use Rattle.cm_wit_signature.proofs.FrontLaws.{all_grown, at_place}
use Rattle.cm_wit_signature.proofs.ItemListLaws.{makes_grown}
use Rattle.cm_wit_signature.proofs.members.add_funcs.Goals as goal

pub loop-func-preserved : goal.loop-func-preserved
loop-func-preserved c = record {
  members = makes_grown resource_func_tree (λ i. map (spec.of_resource c.args.resource.now)) member_view c.args.funcs.now c.loop-func.func-index c.args.out.now.items c.loop-func.out.items c.push.new.self.items c.func-item.result _ c.in_ok-push.ensures.items (omega arith) c.func-item.is (λ ys. refl) c.loop-func.invariant.members;
  fronted = λ before e h. all_grown (IsFronted (before ++ resource_fronts c.args.resource.now)) c.loop-func.out.items c.push.new.self.items _ c.in_ok-push.ensures.items (c.loop-func.invariant.fronted before e h)
      (at_place before c.args.resource.now c.args.first c.front_place.result (func_front c.args.resource.now (resource_func_tree c.func-item.result)) e (c.front_place.ensures.front c.args.resource.now));
}
