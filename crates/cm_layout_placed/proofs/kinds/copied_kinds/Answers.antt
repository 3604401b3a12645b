use Rattle.std.proofs.Common.{◌∙◌, ◌++◌, take, length, arith, ap, add-one}
use Rattle.cm_layout.specs.Flattening.{copies}
use Rattle.cm_layout_placed.proofs.KindLaws.{copies_least, few_taken, one_copy_more}
use Rattle.cm_layout_placed.proofs.kinds.copied_kinds.Goals as goal

pub push_kinds-requires : goal.push_kinds-requires
push_kinds-requires c = omega (arith, ap length c.loop-copy.invariant, few_taken 16 (copies c.loop-copy._copy c.args.element.now))

pub loop-copy-preserved : goal.loop-copy-preserved
loop-copy-preserved c =
    c.in_ok-push_kinds.ensures ∙ ap (λ l. take 16 (l ++ c.args.element.now)) c.loop-copy.invariant
    ∙ rw add-one (one_copy_more 16 c.loop-copy._copy c.args.element.now)

pub returns : goal.returns
returns c =
    c.loop-copy.invariant ∙ copies_least 16 c.args.count c.loop-copy._copy c.args.element.now (omega (arith, c.loop-copy-test.false, c.min-least.ensures))
