use Rattle.std.proofs.Common.{◌∙◌, ◌++◌, ap, sym}
use Rattle.cm_text.specs.Utf8.{spell_utf8}
use Rattle.cm_text.proofs.Utf8Lemmas.{found, not_found}
use Rattle.cm_text.proofs.utf8.Utf8Source.split_first.Goals as goal

pub bytes_after-requires : goal.bytes_after-requires
bytes_after-requires c = (found c.args.bytes.now c.in-Some-default.scalar c.decode.result.1 (sym c.in-Some-default.is-0 ∙ c.decode.ensures.char) c.decode.ensures.size).2

pub returns-in-Some-default-clause-some : goal.returns-in-Some-default-clause-some
returns-in-Some-default-clause-some c =
    let f = found c.args.bytes.now c.in-Some-default.scalar c.decode.result.1 (sym c.in-Some-default.is-0 ∙ c.decode.ensures.char) c.decode.ensures.size in
    (f.0, f.1 ∙ ap (λ ys. spell_utf8 c.in-Some-default.scalar ++ ys) (sym c.bytes_after.ensures))

pub returns-in-None-default-clause-none : goal.returns-in-None-default-clause-none
returns-in-None-default-clause-none c = not_found c.args.bytes.now (sym c.in-None-default.is-0 ∙ c.decode.ensures.char)
