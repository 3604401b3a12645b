use Rattle.std.proofs.Common.{◌∙◌, ap, inl, inr, length}
use Rattle.std.specs.String.{string_bytes}
use Rattle.huxarte_c_calls.specs.Texts.{written}
use Rattle.huxarte_c_components.proofs.showing.show.Goals as goal

pub returns-in-Ok : goal.returns-in-Ok
returns-in-Ok c =
    let all = c.as_bytes.ensures.value in
    inl (string_bytes c.in-Ok.shown, c.in-Ok.ensures.shown, c.fine.ensures, c.write_text.ensures.wanted ∙ ap length all, c.write_text.ensures.written ∙ ap (written c.args.text.now) all)

pub returns-in-Err : goal.returns-in-Err
returns-in-Err c = inr (c.in-Err.refusal, c.in-Err.ensures.refused, c.verdict.ensures, c.write_shown.ensures)
