use Rattle.std.proofs.Common.{◌∙◌, ap, sym, arith, count_by, nat_le}
use Rattle.cm_text.proofs.CountLemmas.{taken_by_counts}
use Rattle.cm_text.proofs.sizes.bytes_taken_of.Goals as goal

pub returns : goal.returns
returns c =
    omega (
      arith,
      taken_by_counts c.args.low c.args.high (c.fits-low.0 ∙ sym c.fits-high.0) c.fits-low.1,
      c.fits-low.0,
      c.count_from.ensures.value ∙ ap (count_by (λ x. nat_le 128 x)) c.marks_of-marks.ensures,
      c.count_from-2.ensures.value,
      c.count_from-3.ensures.value,
      c.count_from-4.ensures.value,
    )
