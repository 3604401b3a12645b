use Rattle.std.proofs.Common.{◌∙◌, ap, length}
use Rattle.cm_text.proofs.AsciiLemmas.{latin1_utf16, length-wide}
use Rattle.cm_text.proofs.PairLemmas.{latin1_spelled, fits_latin1}
use Rattle.cm_text.proofs.latin1.Latin1Source.measure_utf16.Goals as goal

pub returns-clause-ok : goal.returns-clause-ok
returns-clause-ok c =
    let bytes = c.args.bytes.now in
    let all = fits_latin1 bytes c.type_inv.bytes in
    record {
      scalars = bytes;
      text = record { all = all; is = latin1_spelled bytes };
      size_is = ap length (latin1_utf16 bytes all) ∙ length-wide bytes;
    }
