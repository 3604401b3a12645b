-- Laws of what Utf8 defines, for this crate and those above it.
use Rattle.std.proofs.Common.{List, ℕ, ◌≡◌, sym, ap, ◌∙◌, length}
use Rattle.std.proofs.lemmas.Str.{chars-encodes, encodes-chars, scalars-chars}
use Rattle.std.specs.Char.{IsScalar}
use Rattle.std.specs.List.{flat_map}
use Rattle.std.specs.Str.{chars, IsUtf8}
use Rattle.cm_lemmas.proofs.Lists.{from_all, to_all}
use Rattle.cm_text.proofs.Utf8Lemmas.{spelled}
use Rattle.cm_text.specs.Text.{IsText}
use Rattle.cm_text.specs.Utf8.{spell_utf8}

pub same_chars : (cs bytes : List ℕ) → IsText IsScalar spell_utf8 cs bytes → cs ≡ chars bytes
same_chars cs bytes t = sym (ap chars (sym (spelled cs ∙ t.is)) ∙ chars-encodes cs (from_all cs t.all))

pub spelled_chars : (bytes : List ℕ) → IsUtf8 bytes → flat_map spell_utf8 (chars bytes) ≡ bytes
spelled_chars bytes h = sym (spelled (chars bytes)) ∙ encodes-chars bytes h

pub text_of : (bytes : List ℕ) → IsUtf8 bytes → IsText IsScalar spell_utf8 (chars bytes) bytes
text_of bytes h = record { all = to_all (chars bytes) (scalars-chars bytes h); is = spelled_chars bytes h }

pub size_8 : (bytes : List ℕ) → IsUtf8 bytes → length bytes ≡ length (flat_map spell_utf8 (chars bytes))
size_8 bytes h = ap length (sym (spelled_chars bytes h))
