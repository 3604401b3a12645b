use Rattle.std.proofs.Common.{sym, ap, ◌∙◌, None, ◌≡◌}
use Rattle.std.specs.Option.{option_copied}
use Rattle.std.specs.BTreeMap.{get}
use Rattle.cm_types_numbers.specs.Tables.{key_order}
use Rattle.cm_types_numbers.proofs.Insertions.{node_inserted}
use Rattle.cm_types_numbers.proofs.nodes.NodeNumbers.number.Goals as goal

pub invariant_of-self : goal.invariant_of-self
invariant_of-self c =
    let none : get key_order c.args.self.now.numbers c.args.key ≡ None = sym c.get.ensures.value ∙ ap option_copied c.in_default.is in
    let e = c.insert.ensures in
    record { one_to_one = (node_inserted c.args.self.now.numbers c.insert.new.self c.args.key c.len-next.result c.insert.result c.len-next.ensures.len none c.args.self.now.one_to_one e.old e.updates e.len e.err).one_to_one }

pub returns-clause-kept : goal.returns-clause-kept
returns-clause-kept c =
    let none : get key_order c.args.self.now.numbers c.args.key ≡ None = sym c.get.ensures.value ∙ ap option_copied c.in_default.is in
    let e = c.insert.ensures in
    (node_inserted c.args.self.now.numbers c.insert.new.self c.args.key c.len-next.result c.insert.result c.len-next.ensures.len none c.args.self.now.one_to_one e.old e.updates e.len e.err).kept
