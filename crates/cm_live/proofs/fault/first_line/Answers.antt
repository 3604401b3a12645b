use Rattle.std.proofs.Common.{ap, subst, sym, ◌∙◌, arith}
use Rattle.std.specs.Prelude.{take}
use Rattle.std.proofs.lemmas.List.{take_all}
use Rattle.cm_live.specs.Lines.{IsOneLine}
use Rattle.cm_live.proofs.OneLineLaws.{before_line_feed}
use Rattle.cm_live.proofs.fault.first_line.Goals as goal

pub returns-in-Some : goal.returns-in-Some
returns-in-Some c =
    let found = c.in-Some.ensures.byte (omega arith) (λ w o f. f) in
    subst IsOneLine (sym found.0) (before_line_feed c.args.text.now)

pub returns-in-None : goal.returns-in-None
returns-in-None c =
    let text = c.args.text.now in
    subst IsOneLine (ap (λ n. take n text) (c.in-None.ensures.byte (omega arith) (λ w o f. f)) ∙ take_all _ text (omega arith)) (before_line_feed text)
