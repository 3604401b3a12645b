use Rattle.std.proofs.Common.{◌≡◌, ◌++◌, Err, ap, ◌∙◌, sym, arith, length, take, drop}
use Rattle.std.proofs.lemmas.List.{take-append-le, take_all}
use Rattle.cm_text.proofs.FaultLemmas.{only_memory, only_fault}
use Rattle.cm_text.proofs.TextLemmas.{not_text}
use Rattle.cm_text.proofs.transcoding.transcode.Goals as goal
use Rattle.cm_lemmas.proofs.Lists.{all_so}

pub returns-in-Err-clause-only : goal.returns-in-Err-clause-only
returns-in-Err-clause-only g c =
    let met = g.met.S.Source in
    λ cs text. only_memory g.S.Source.has g.S.Source.spell (record { some_byte = met.some_byte; one_spelling = met.one_spelling }) c.in-Err.fault cs c.args.bytes.now c.in-Err.ensures.ill_formed text

pub returns-clause-ok : goal.returns-clause-ok
returns-clause-ok g c =
    let sized = c.in-Ok.ensures.ok in
    let written = c.write.new.out in
    let v = c.in-Ok-from_elem.out in
    let long : length written ≡ v.len = omega (arith, c.write.auto.out, c.as_mut_slice.ensures.len) in
    let whole : take v.len (written ++ drop (length written) v.items) ≡ written =
    take-append-le v.len written (drop (length written) v.items) (omega arith) ∙ take_all v.len written (omega arith) in (
      sized.scalars,
      sized.text,
      record {
        all = all_so g.S.Source.has g.D.Source.has (λ x has. g.met.D.Encoding.every x (g.met.S.Source.only_scalars x has)) sized.scalars sized.text.all;
        is = sym (whole ∙ c.write.ensures sized.scalars sized.text);
      },
    )

pub returns-in-Err-clause-exact : goal.returns-in-Err-clause-exact
returns-in-Err-clause-exact g c =
    λ at up. ap Err (only_fault g.S.Source.has g.S.Source.spell c.args.bytes.now c.in-Err.fault at c.in-Err.ensures.ill_formed up)

pub returns-in-Err-from_elem-clause-exact : goal.returns-in-Err-from_elem-clause-exact
returns-in-Err-from_elem-clause-exact g c =
    let met = g.met.S.Source in
    let sized = c.in-Ok.ensures.ok in
    λ at up. absurd (not_text g.S.Source.has g.S.Source.spell (record { some_byte = met.some_byte; one_spelling = met.one_spelling }) c.args.bytes.now sized.scalars at up sized.text)

pub returns-clause-exact : goal.returns-clause-exact
returns-clause-exact g c =
    let met = g.met.S.Source in
    let sized = c.in-Ok.ensures.ok in
    λ at up. absurd (not_text g.S.Source.has g.S.Source.spell (record { some_byte = met.some_byte; one_spelling = met.one_spelling }) c.args.bytes.now sized.scalars at up sized.text)
