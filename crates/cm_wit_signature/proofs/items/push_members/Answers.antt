use Rattle.std.proofs.Common.{rules, arith, List, get_or, map, ap, ◌∙◌}
use Rattle.cm_wit_signature.specs.declared.members.Member.{Member}
use Rattle.cm_types_arena.specs.Places.{types_of}
use Rattle.cm_wit_meanings.specs.Places.{scope_in}
use Rattle.cm_wit_signature.specs.Fronts.{front_resource}
use Rattle.cm_wit_signature.proofs.ItemLaws.{member_resource, items_next, items_fault, items_all, items_placed, items_own, all_there, all_within}
use Rattle.cm_wit_signature.proofs.items.push_members.Goals as goal

pub push_item-requires-clause-placed : goal.push_item-requires-clause-placed
push_item-requires-clause-placed c = items_placed c.args.scope.now c.args.members.fronts.items c.args.members.list.items c.args.types.now c.loop-member.types c.requires.placed c.loop-member.member-index c.loop-member.items.items c.loop-member.invariant

pub push_item-requires-clause-own : goal.push_item-requires-clause-own
push_item-requires-clause-own c = items_own c.args.scope.now c.args.members.fronts.items c.args.members.list.items c.args.types.now c.loop-member.types c.requires.placed c.loop-member.member-index c.loop-member.items.items c.loop-member.invariant c.requires.own

pub push_item-requires-clause-resource : goal.push_item-requires-clause-resource
push_item-requires-clause-resource c =
    member_resource (scope_in (types_of c.loop-member.types) c.args.scope.now) c.args.members.fronts.items c.deref-in-loop-member.result.now c.args.members.list.items c.loop-member.member-index c.member-item.result (omega arith) (c.member-item.is ∙ ap (λ (ms : List Member). get_or ms c.loop-member.member-index c.member-item.result) c.deref-member-items.ensures.value) c.requires.fronted (c.deref-in-loop-member.ensures.value ∙ c.in_ok-resources.ensures (types_of c.loop-member.types) ∙ ap (map (front_resource (scope_in (types_of c.loop-member.types) c.args.scope.now))) c.deref.ensures.value)

pub loop-member-preserved : goal.loop-member-preserved
loop-member-preserved c =
    items_next c.args.scope.now c.args.members.fronts.items c.args.members.list.items c.args.types.now c.loop-member.types c.requires.placed c.loop-member.member-index c.loop-member.items.items c.loop-member.invariant c.push_item.new.types c.member-item.result c.in_ok-item.item c.push.new.self.items (omega arith) (c.member-item.is ∙ ap (λ (ms : List Member). get_or ms c.loop-member.member-index c.member-item.result) c.deref-member-items.ensures.value) c.requires.fronted (c.in_ok-item.ensures.item c.args.members.fronts.items) c.in_ok-item.ensures.there c.in_ok-item.ensures.within c.in_ok-item.ensures.grown c.in_ok-item.ensures.funcs (search rules)

pub returns-in_err-item-clause-fault : goal.returns-in_err-item-clause-fault
returns-in_err-item-clause-fault c =
    let h = items_fault c.args.scope.now c.args.members.fronts.items c.args.members.list.items c.args.types.now c.loop-member.types c.requires.placed c.loop-member.member-index c.loop-member.items.items c.loop-member.invariant c.member-item.result c.in_err-item.field-0.0 (omega arith) (c.member-item.is ∙ ap (λ (ms : List Member). get_or ms c.loop-member.member-index c.member-item.result) c.deref-member-items.ensures.value) c.in_err-item.ensures.fault in
    search (rules, h)

pub returns-clause-items : goal.returns-clause-items
returns-clause-items c =
    items_all c.args.scope.now c.args.members.fronts.items c.args.members.list.items c.args.types.now c.loop-member.types c.requires.placed c.loop-member.member-index c.loop-member.items.items c.loop-member.invariant (omega arith)

pub returns-clause-there : goal.returns-clause-there
returns-clause-there c =
    all_there c.args.scope.now c.args.members.fronts.items c.args.members.list.items c.args.types.now c.loop-member.types c.requires.placed c.loop-member.member-index c.loop-member.items.items c.loop-member.invariant

pub returns-clause-within : goal.returns-clause-within
returns-clause-within c =
    all_within c.args.scope.now c.args.members.fronts.items c.args.members.list.items c.args.types.now c.loop-member.types c.requires.placed c.loop-member.member-index c.loop-member.items.items c.loop-member.invariant
