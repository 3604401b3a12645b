use Rattle.std.proofs.Common.{sym, ◌∙◌}
use Rattle.cm_wit_projects_reading.proofs.PassingLaws.{skips_on, skips_done}
use Rattle.cm_wit_projects_reading.proofs.left_out.skip_past.Goals as goal

pub loop-cursor-preserved-in-loop-cursor : goal.loop-cursor-preserved-in-loop-cursor
loop-cursor-preserved-in-loop-cursor c = skips_on c.args.closing c.args.cursor.now c.loop-cursor.cursor c.take.new.self c.take.result c.take.ensures (sym c.next_is_other.ensures ∙ c.loop-cursor-test.true) c.loop-cursor.invariant

pub loop-cursor-preserved-in-loop-cursor-2 : goal.loop-cursor-preserved-in-loop-cursor-2
loop-cursor-preserved-in-loop-cursor-2 c = skips_on c.args.closing c.args.cursor.now c.loop-cursor.cursor c.take.new.self c.take.result c.take.ensures (sym c.next_is_other.ensures ∙ c.loop-cursor-test.true) c.loop-cursor.invariant

pub loop-cursor-preserved-in-loop-cursor-3 : goal.loop-cursor-preserved-in-loop-cursor-3
loop-cursor-preserved-in-loop-cursor-3 c = skips_on c.args.closing c.args.cursor.now c.loop-cursor.cursor c.take.new.self c.take.result c.take.ensures (sym c.next_is_other.ensures ∙ c.loop-cursor-test.true) c.loop-cursor.invariant

pub loop-cursor-preserved-in-loop-cursor-4 : goal.loop-cursor-preserved-in-loop-cursor-4
loop-cursor-preserved-in-loop-cursor-4 c = skips_on c.args.closing c.args.cursor.now c.loop-cursor.cursor c.take.new.self c.take.result c.take.ensures (sym c.next_is_other.ensures ∙ c.loop-cursor-test.true) c.loop-cursor.invariant

pub returns-then-next_is : goal.returns-then-next_is
returns-then-next_is c = skips_done c.args.closing c.args.cursor.now c.loop-cursor.cursor c.take-then-next_is.new.self c.take-then-next_is.result c.take-then-next_is.ensures (sym c.next_is_other.ensures ∙ c.loop-cursor-test.false) (sym c.next_is.ensures ∙ c.if-next_is.true) c.loop-cursor.invariant
