use Rattle.std.specs.Char.{IsScalar}
use Rattle.cm_text.specs.Utf16.{spell_utf16}
use Rattle.cm_abi_model.specs.Requests.{stored_charset}
use Rattle.cm_abi_model.specs.Texts.{utf16}
use Rattle.cm_abi_load.specs.Decoded.{decoded}
use Rattle.cm_abi_load.proofs.MeasureLemmas.{measures}
use Rattle.cm_abi_load.specs.Decoding.{text_decoded}
use Rattle.cm_abi_load.proofs.TextLemmas.{none_16}
use Rattle.cm_abi_load.proofs.measures.utf16_measure.Goals as goal

pub returns : goal.returns
returns c = λ s.
    measures IsScalar spell_utf16 (stored_charset c.args.target) c.args.bytes.now (decoded utf16 c.args.bytes.now) c.size_for.result s
    (λ cs t. text_decoded utf16 cs c.args.bytes.now t) (none_16 c.args.bytes.now) c.size_for.ensures.ok c.size_for.ensures.err
