use Rattle.std.proofs.Common.{◌≡◌, ◌≢◌, ◌-◌, Some, get_or, arith}
use Rattle.std.specs.Prelude.{slice_get}
use Rattle.std.proofs.lemmas.Option.{slice_get-get_or}
use Rattle.cm_machine_model.specs.declared.frame.Lend.{Lend}
use Rattle.cm_machine_parts.proofs.LendLists.{one_more_to, others_below}
use Rattle.cm_machine_parts.proofs.lends.first_to.Goals as goal

pub returns-then-lends-first-clause-before : goal.returns-then-lends-first-clause-before
returns-then-lends-first-clause-before c =
    let lends = c.args.lends.now in
    let first = c.loop-first.first in
    let none : Lend = record { frame = 0; instance = 0; index = 0 } in
    let x : Lend = get_or lends (first - 1) none in
    let at : slice_get lends (first - 1) ≡ Some x = slice_get-get_or lends (first - 1) none (omega arith) in
    let other : x.frame ≢ c.args.frame = omega arith in
    others_below lends c.args.frame first x c.requires.order c.requires.above at other

pub loop-first-preserved : goal.loop-first-preserved
loop-first-preserved c =
    let lends = c.args.lends.now in
    let first = c.loop-first.first in
    let none : Lend = record { frame = 0; instance = 0; index = 0 } in
    let x : Lend = get_or lends (first - 1) none in
    let at : slice_get lends (first - 1) ≡ Some x = slice_get-get_or lends (first - 1) none (omega arith) in
    let same : x.frame ≡ c.args.frame = omega arith in
    record { within = omega arith; behind = one_more_to lends c.args.frame first x c.loop-first.invariant.behind at same }
