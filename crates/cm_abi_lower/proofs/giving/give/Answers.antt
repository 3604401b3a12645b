use Rattle.std.proofs.Common.{rules, ◌≤◌, length}
use Rattle.cm_abi_lower.proofs.GivingLemmas.{all_given, none_yet}
use Rattle.cm_abi_lower.proofs.giving.give.Goals as goal

pub returns-then-is_empty-clause-gives : goal.returns-then-is_empty-clause-gives
returns-then-is_empty-clause-gives c =
    let none : length c.args.leaves.now ≤ 0 = search (rules, c.is_empty.ensures, c.if-is_empty.true) in
    all_given c.args.to c.args.table.now.handles c.args.table.now.handles c.args.leaves.now c.clear.new.self.items 0 none
    (none_yet c.args.to c.args.table.now.handles c.args.leaves.now c.clear.new.self.items c.clear.ensures.items c.is_sound.ensures)
