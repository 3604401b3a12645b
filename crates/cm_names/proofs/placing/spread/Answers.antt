use Rattle.std.proofs.Common.{IfSome, map, subst, ◌∙◌, arith}
use Rattle.std.specs.String.{string_bytes}
use Rattle.cm_names.specs.Finding.{IsFoundOf}
use Rattle.cm_names.proofs.FindingLaws.{all_below, below_more}
use Rattle.cm_names.proofs.placing.spread.Goals as goal

pub loop-at-preserved : goal.loop-at-preserved
loop-at-preserved c =
    let ts = map string_bytes c.args.texts.now in (
      below_more c.args.marks.now ts c.loop-at.new.items c.put_again.new.marks.items c.loop-at.at c.loop-at.invariant.0 c.put_again.ensures.kept
          (subst (λ o. IfSome o (IsFoundOf ts c.put_again.new.marks.items)) c.marked.ensures (c.put_again.ensures.found c.if-not-put_again.false)),
      c.put_again.ensures.places ∙ c.loop-at.invariant.1,
    )

pub returns-clause-found : goal.returns-clause-found
returns-clause-found c = all_below c.args.marks.now (map string_bytes c.args.texts.now) c.loop-at.new.items c.loop-at.at (omega arith) c.loop-at.invariant.0

pub returns-clause-places : goal.returns-clause-places
returns-clause-places c = c.loop-at.invariant.1
