use Rattle.cm_stubs.specs.Used.{AreMarks}
use Rattle.cm_stubs.proofs.used.used_marks.Given as goal

abbrev pub invariant-loop-line : goal.invariant-loop-line
invariant-loop-line l = AreMarks l.plan l.provider l.count l.marks.items
