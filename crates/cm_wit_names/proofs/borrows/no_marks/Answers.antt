use Rattle.std.proofs.Common.{rules}
use Rattle.cm_wit_names.proofs.BorrowLaws.{unmarked}
use Rattle.cm_wit_names.proofs.borrows.no_marks.Goals as goal

pub returns-clause-none : goal.returns-clause-none
returns-clause-none c = λ k m. unmarked c.args.count k c.in_ok-marks.marks.items (c.in_ok-marks.ensures.items_if_clones_equal (search rules)) m
