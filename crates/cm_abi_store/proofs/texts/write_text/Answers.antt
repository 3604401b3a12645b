use Rattle.std.proofs.Common.{◌∙◌, ap, sym, length}
use Rattle.std.specs.Str.{chars}
use Rattle.cm_abi_model.specs.Requests.{stored_charset, text_bytes}
use Rattle.cm_abi_model.specs.Stores.{placed, poke}
use Rattle.cm_abi_store.proofs.texts.write_text.Goals as goal
use Rattle.cm_text.proofs.Utf8Laws.{text_of}

pub write_utf8-requires : goal.write_utf8-requires
write_utf8-requires c =
    let is = ap (λ bs. length (text_bytes (stored_charset c.args.encoding) (chars bs))) c.as_bytes.ensures.value in
    record {
      text = record { scalars = chars c.as_bytes.result.now; text = text_of c.as_bytes.result.now c.as_bytes.ensures.utf8; size_is = is ∙ sym c.requires.size };
      inside = c.requires.inside;
    }

pub returns-clause-stored : goal.returns-clause-stored
returns-clause-stored c =
    c.write_utf8.ensures.stored (chars c.as_bytes.result.now) (text_of c.as_bytes.result.now c.as_bytes.ensures.utf8)
    ∙ ap (λ bs. poke (placed c.args.at (text_bytes (stored_charset c.args.encoding) (chars bs))) c.args.memory.now) c.as_bytes.ensures.value
