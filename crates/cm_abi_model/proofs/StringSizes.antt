-- How many bytes texts take in UTF-16.
use Rattle.std.proofs.Common.{◌≡◌, ℕ, List, length, sym, ap, subst, ◌∙◌}
use Rattle.std.proofs.Math.Seq.{take-length}
use Rattle.std.specs.Char.{IsScalar}
use Rattle.std.specs.List.{flat_map}
use Rattle.std.specs.Str.{IsUtf8, chars}
use Rattle.cm_text.specs.Fault.{IsIllFormed}
use Rattle.cm_text.specs.Text.{IsText, IsTextOfSize, IsTextUpTo}
use Rattle.cm_text.specs.Utf16.{spell_utf16}
use Rattle.cm_text.specs.Utf8.{spell_utf8}
use Rattle.cm_text.specs.declared.fault.TextFault.{TextFault}
use Rattle.cm_text.specs.declared.fault.TextFault.TheVariants as text_fault
use Rattle.cm_text.proofs.Utf8Laws.{same_chars, text_of}

-- ---- a string is a text

pub no_fault : (bytes : List ℕ) (e : TextFault) → IsUtf8 bytes → IsIllFormed e (IsTextUpTo IsScalar spell_utf8 bytes) → ⊥
no_fault bytes (text_fault.IllFormed at) h up =
    up.longest (length bytes) (chars bytes) up.short (subst (λ bs. IsText IsScalar spell_utf8 (chars bytes) bs) (sym (take-length bytes)) (text_of bytes h))
no_fault bytes text_fault.Memory h up = up

pub size_16 : (bytes : List ℕ) (size : ℕ) → IsTextOfSize IsScalar spell_utf8 spell_utf16 bytes size → size ≡ length (flat_map spell_utf16 (chars bytes))
size_16 bytes size t = sym t.size_is ∙ ap (λ cs. length (flat_map spell_utf16 cs)) (same_chars t.scalars bytes t.text)
