use Rattle.std.proofs.Common.{IfErr, sym, subst}
use Rattle.cm_types_arena.specs.Places.{types_of}
use Rattle.cm_wit_meanings.specs.Places.{scope_in}
use Rattle.cm_wit_signature.specs.Fronts.{HasResource}
use Rattle.cm_wit_signature.specs.Members.{member_item}
use Rattle.cm_wit_signature.specs.declared.members.Member as code
use Rattle.cm_wit_signature.specs.MemberViews.{member_view}
use Rattle.cm_wit_signature.specs.ItemFaults.{IsItemFault}
use Rattle.cm_wit_signature.proofs.items.push_item.Goals as goal

pub returns-in-Used-clause-fault : goal.returns-in-Used-clause-fault
returns-in-Used-clause-fault c =
    let s = scope_in (types_of c.args.types.now) c.args.scope.now in
    subst (λ (m : code.Member). IfErr c.used_item.result (IsItemFault (member_item s (member_view m)))) (sym c.in-Used.is)
    (c.used_item.ensures.fault (types_of c.args.types.now))

pub returns-in-Declared-clause-fault : goal.returns-in-Declared-clause-fault
returns-in-Declared-clause-fault c =
    let s = scope_in (types_of c.args.types.now) c.args.scope.now in
    subst (λ (m : code.Member). IfErr c.own_item.result (IsItemFault (member_item s (member_view m)))) (sym c.in-Declared.is)
    (c.own_item.ensures.fault (types_of c.args.types.now))

pub returns-in-OfResource-clause-fault : goal.returns-in-OfResource-clause-fault
returns-in-OfResource-clause-fault c =
    let s = scope_in (types_of c.args.types.now) c.args.scope.now in
    subst (λ (m : code.Member). IfErr c.push_resource_item.result (IsItemFault (member_item s (member_view m)))) (sym c.in-OfResource.is) c.push_resource_item.ensures.fault

pub push_resource_item-requires-clause-resource : goal.push_resource_item-requires-clause-resource
push_resource_item-requires-clause-resource c =
    subst (λ (m : code.Member). HasResource (scope_in (types_of c.args.types.now) c.args.scope.now) c.args.resources.now m) c.in-OfResource.is c.requires.resource
