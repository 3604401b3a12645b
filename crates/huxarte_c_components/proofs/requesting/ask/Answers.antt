use Rattle.std.proofs.Common.{◌∙◌, ap, inl, inr, length, refl}
use Rattle.huxarte_c_calls.specs.Texts.{written}
use Rattle.huxarte_c_components.proofs.requesting.ask.Goals as goal

pub returns-in-Ok : goal.returns-in-Ok
returns-in-Ok c =
    let all = c.deref.ensures.value in
    inl (c.in-Ok.rows.items, c.in-Ok.ensures.rows, c.fine.ensures, c.write_items.ensures.wanted ∙ ap length all, c.write_items.ensures.written ∙ ap (written c.args.requests.now) all)

pub returns-in-Err : goal.returns-in-Err
returns-in-Err c = inr (c.in-Err.fault, c.in-Err.ensures.refused, c.verdict.ensures, refl, refl)
