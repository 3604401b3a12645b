use Rattle.std.proofs.Common.{arith}
use Rattle.cm_abi_lift.specs.HandingOver.{hands_of}
use Rattle.cm_abi_lift.proofs.HandLaws.{borrow_back, none_no, can_restore, can_unlend, own_back, own_some}
use Rattle.cm_abi_lift.proofs.handing.Handed.undo.Goals as goal

pub restore-requires : goal.restore-requires
restore-requires c = can_restore c.requires.last.0 (hands_of c.args.table.now.handles c.args.self.now) c.args.met.wanted c.in-Own.field-0 c.args.met.index c.in-Own.is c.requires.last.1

pub unlend-requires : goal.unlend-requires
unlend-requires c = can_unlend c.requires.last.0 (hands_of c.args.table.now.handles c.args.self.now) c.args.met.wanted c.in-Borrow.field-0 c.args.met.index c.in-Borrow.is c.requires.last.1

pub returns-in-Some-clause-undone : goal.returns-in-Some-clause-undone
returns-in-Some-clause-undone c = λ before e. own_back before (hands_of c.args.table.now.handles c.args.self.now) c.args.met.wanted c.in-Own.field-0 c.args.met.index c.pop.new.self.items c.in-Some.handle c.restore.new.self.handles c.in-Own.is e c.in-Some.ensures.items c.restore.ensures.undoes

pub returns-in_default-clause-undone : goal.returns-in_default-clause-undone
returns-in_default-clause-undone c = λ before e. absurd (none_no c.pop.result c.in_default.is (c.pop.ensures.variant.1
    (omega (arith, own_some before (hands_of c.args.table.now.handles c.args.self.now) c.args.met.wanted c.in-Own.field-0 c.args.met.index c.in-Own.is e, c.args.self.now.owns.ok))))

pub returns-in-Borrow-clause-undone : goal.returns-in-Borrow-clause-undone
returns-in-Borrow-clause-undone c = λ before e. borrow_back before (hands_of c.args.table.now.handles c.args.self.now) c.args.met.wanted c.in-Borrow.field-0 c.args.met.index c.pop-in-Borrow.new.self.items c.pop-in-Borrow.result c.unlend.new.self.handles c.in-Borrow.is e c.pop-in-Borrow.ensures.items (λ some. c.pop-in-Borrow.ensures.variant.1 (omega (arith, some, c.args.self.now.lends.ok))) c.unlend.ensures.handles
