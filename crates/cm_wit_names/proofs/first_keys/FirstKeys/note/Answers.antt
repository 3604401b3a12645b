use Rattle.std.proofs.Common.{◌≡◌, ◌<◌, length, Some, sym, arith}
use Rattle.std.proofs.lemmas.Option.{slice_get_within}
use Rattle.cm_names.proofs.NumberLaws.{numbered}
use Rattle.cm_names.specs.TextNumbers.{number_in}
use Rattle.cm_names.specs.TextTables.{texts_of}
use Rattle.cm_wit_names.proofs.FirstLaws.{noted_known, of_names_after}
use Rattle.cm_wit_names.proofs.first_keys.FirstKeys.note.Goals as goal

pub invariant_of-self : goal.invariant_of-self
invariant_of-self c =
    let s = c.args.self.now in
    let name = c.args.name.now in
    let i = c.in-Some.index in
    let is : number_in (texts_of s.names) name ≡ Some i = sym c.in-Some.ensures in
    let lt : i < length s.firsts.items = omega (arith, s.as_many, slice_get_within (texts_of s.names) i name (numbered (texts_of s.names) name i is)) in
    record {
      distinct = s.distinct;
      as_many = s.as_many;
      of_names = of_names_after c.put_new.result (length s.firsts.items) i c.args.number c.args.place s.others c.put_new.new.others lt s.of_names c.put_new.ensures.noted c.put_new.ensures.err;
    }

pub returns-clause-noted : goal.returns-clause-noted
returns-clause-noted c =
    let s = c.args.self.now in
    noted_known (texts_of s.names) s.firsts.items c.args.number c.args.name.now c.args.place s.others c.put_new.new.others c.in-Some.index (sym c.in-Some.ensures) c.in_ok-is_new.ensures.noted
