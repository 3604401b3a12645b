use Rattle.std.proofs.Common.{◌∙◌, ap, sym, sum_by}
use Rattle.std.specs.Simd.Lanes.{chunk, zip2}
use Rattle.cm_text.specs.Sizes.{bytes_taken}
use Rattle.cm_text.specs.Utf16.{unit, first_bytes}
use Rattle.cm_text.proofs.LaneLemmas.{units-zip2}
use Rattle.cm_text.proofs.sizes.bytes_taken_in.Goals as goal

pub returns : goal.returns
returns c =
    let xs = chunk c.args.at 32 c.args.bytes.now in
    c.bytes_taken_of.ensures
    ∙ ap (λ ys. sum_by bytes_taken (zip2 unit ys c.units_at.result.1)) c.units_at.ensures.low
    ∙ ap (λ ys. sum_by bytes_taken (zip2 unit (first_bytes xs) ys)) c.units_at.ensures.high
    ∙ ap (sum_by bytes_taken) (sym (units-zip2 xs))
