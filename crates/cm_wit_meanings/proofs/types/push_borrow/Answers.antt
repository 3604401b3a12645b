use Rattle.std.proofs.Common.{ap, sym}
use Rattle.std.specs.Option.{option_map, option_and_then}
use Rattle.cm_types.specs.Types.{borrow}
use Rattle.cm_types_arena.specs.Places.{types_of}
use Rattle.cm_wit_meanings.specs.Scopes.{as_resource}
use Rattle.cm_wit_meanings.proofs.AddedLaws.{meant_so, refused_first}
use Rattle.cm_wit_meanings.proofs.types.push_borrow.Goals as goal

pub returns-in-Some-Resource : goal.returns-in-Some-Resource
returns-in-Some-Resource c =
    let e = rw c.in-Some-Resource.field-0-is at c.in-Some-Resource.ensures.meaning (types_of c.args.types.now) in
    meant_so (ap (λ m. option_map borrow (option_and_then as_resource m)) (sym e)) c.add.ensures

pub returns-in-Some-Value : goal.returns-in-Some-Value
returns-in-Some-Value c =
    let e = rw c.in-Some-Value.field-0-is at c.in-Some-Value.ensures.meaning (types_of c.args.types.now) in
    refused_first _ _ _ c.args.types.now _ _ (ap (λ m. option_map borrow (option_and_then as_resource m)) (sym e))

pub returns-in-None : goal.returns-in-None
returns-in-None c =
    refused_first _ _ _ c.args.types.now _ _ (ap (λ m. option_map borrow (option_and_then as_resource m)) (sym (c.in-None.ensures.meaning (types_of c.args.types.now))))
