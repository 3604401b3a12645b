use Rattle.std.proofs.Common.{sym}
use Rattle.cm_text.specs.Latin1.{HasLatin1, spell_latin1}
use Rattle.cm_text.specs.Text.{IsText}
use Rattle.cm_text.proofs.PairLemmas.{latin1_spelled, fits_latin1}
use Rattle.cm_text.proofs.latin1.Latin1Source.measure_utf8.Goals as goal

pub latin1_in_utf8-requires : goal.latin1_in_utf8-requires
latin1_in_utf8-requires c = (c.args.bytes.now, record { all = fits_latin1 c.args.bytes.now c.type_inv.bytes; is = latin1_spelled c.args.bytes.now })

pub returns-clause-ok : goal.returns-clause-ok
returns-clause-ok c =
    let bytes = c.args.bytes.now in
    let text : IsText HasLatin1 spell_latin1 bytes bytes = record { all = fits_latin1 bytes c.type_inv.bytes; is = latin1_spelled bytes } in
    record { scalars = bytes; text = text; size_is = sym (c.latin1_in_utf8.ensures bytes text) }
