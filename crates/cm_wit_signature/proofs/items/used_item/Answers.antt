use Rattle.std.proofs.Common.{rules}
use Rattle.cm_wit_meanings.specs.Places.{scope_in}
use Rattle.cm_wit_meanings.specs.Scopes.{Meaning}
use Rattle.cm_wit_signature.specs.Members.{item_with, used_type, member_item, used}
use Rattle.cm_wit_signature.specs.ItemFaults.{IsItemFault}
use Rattle.cm_wit_signature.proofs.ItemLaws.{refused}
use Rattle.cm_wit_signature.proofs.items.used_item.Goals as goal

pub returns-in_err-meaning-clause-fault : goal.returns-in_err-meaning-clause-fault
returns-in_err-meaning-clause-fault c = λ types.
    let h : IsItemFault (member_item (scope_in types c.args.scope.now) (used c.args.name.now)) c.in_err-meaning.field-0.0 =
    refused (λ (m : Meaning). item_with c.args.name.now (used_type m)) (scope_in types c.args.scope.now c.args.name.now) c.in_err-meaning.field-0.0 c.in_err-meaning.ensures.fault (c.in_err-meaning.ensures.nothing types) in
    search (rules, h)

pub returns-clause-there : goal.returns-clause-there
returns-clause-there c = λ types funcs placed. c.used_desc.ensures.there types funcs (c.in_ok-meaning.ensures.placed types placed)

pub returns-clause-no_func : goal.returns-clause-no_func
returns-clause-no_func c = λ types funcs. c.used_desc.ensures.no_func types funcs
