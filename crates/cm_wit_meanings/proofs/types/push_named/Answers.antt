use Rattle.std.proofs.Common.{ap, sym, length}
use Rattle.std.specs.Option.{option_map}
use Rattle.cm_types_arena.specs.Places.{types_of}
use Rattle.cm_wit_meanings.specs.Scopes.{as_type}
use Rattle.cm_wit_meanings.proofs.AddedLaws.{meant_so, refused_first, stands}
use Rattle.cm_wit_meanings.proofs.types.push_named.Goals as goal

pub returns-in-Some-Value : goal.returns-in-Some-Value
returns-in-Some-Value c =
    let e = rw c.in-Some-Value.field-0-is at c.in-Some-Value.ensures.meaning (types_of c.args.types.now) in
    stands _ _ _ c.args.types.now _ c.in-Some-Value.place (rw c.in-Some-Value.field-0-is at c.in-Some-Value.ensures.placed (length (types_of c.args.types.now)) c.requires.placed) (ap (option_map as_type) (sym e))

pub returns-in-Some-Resource : goal.returns-in-Some-Resource
returns-in-Some-Resource c =
    let e = rw c.in-Some-Resource.field-0-is at c.in-Some-Resource.ensures.meaning (types_of c.args.types.now) in
    meant_so (ap (option_map as_type) (sym e)) c.add.ensures

pub returns-in-None : goal.returns-in-None
returns-in-None c = refused_first _ _ _ c.args.types.now _ _ (ap (option_map as_type) (sym (c.in-None.ensures.meaning (types_of c.args.types.now))))
