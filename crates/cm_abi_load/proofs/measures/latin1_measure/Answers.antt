use Rattle.cm_text.specs.Latin1.{HasLatin1, spell_latin1}
use Rattle.cm_abi_model.specs.Requests.{stored_charset}
use Rattle.cm_abi_model.specs.Texts.{latin1}
use Rattle.cm_abi_load.specs.Decoded.{decoded}
use Rattle.cm_abi_load.proofs.MeasureLemmas.{measures}
use Rattle.cm_abi_load.specs.Decoding.{text_decoded}
use Rattle.cm_abi_load.proofs.TextLemmas.{none_1}
use Rattle.cm_abi_load.proofs.measures.latin1_measure.Goals as goal

pub returns : goal.returns
returns c = λ s.
    measures HasLatin1 spell_latin1 (stored_charset c.args.target) c.args.bytes.now (decoded latin1 c.args.bytes.now) c.size_for.result s
    (λ cs t. text_decoded latin1 cs c.args.bytes.now t) (none_1 c.args.bytes.now) c.size_for.ensures.ok c.size_for.ensures.err
