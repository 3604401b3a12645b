use Rattle.std.proofs.Common.{refl, inl, inr}
use Rattle.std.proofs.lemmas.Result.{err_from_is_err_and}
use Rattle.cm_live.specs.Transcripts.{refused, unread}
use Rattle.cm_live.proofs.served.do_line.Goals as goal

pub returns-in_err-statement-clause-refused : goal.returns-in_err-statement-clause-refused
returns-in_err-statement-clause-refused g c =
    let p = err_from_is_err_and c.from_residual.result c.from_residual.ensures.1 in
    rw (p.1, p.2)
    (unread c.in_err-statement.field-0.0, refl, (c.in_err-statement.ensures.refused, refl))

pub returns-in_err-admit-clause-refused : goal.returns-in_err-admit-clause-refused
returns-in_err-admit-clause-refused g c =
    let r = c.from_residual-in_err-admit in
    let p = err_from_is_err_and r.result r.ensures.1 in
    rw (p.1, p.2) (
      refused c.in_ok-statement.statement c.in_err-admit.field-0.0,
      refl,
      (c.in_ok-statement.ensures.spelled, inr c.in_err-admit.ensures.refused, refl),
    )

pub returns-in_err-answer-clause-refused : goal.returns-in_err-answer-clause-refused
returns-in_err-answer-clause-refused g c =
    let r = c.from_residual-in_err-answer in
    let p = err_from_is_err_and r.result r.ensures.1 in
    rw (p.1, p.2) (
      refused c.in_ok-statement.statement c.in_err-answer.field-0.0,
      refl,
      (
        c.in_ok-statement.ensures.spelled,
        inl c.in_err-answer.ensures.refused,
        c.in_err-answer.ensures.stays,
      ),
    )
