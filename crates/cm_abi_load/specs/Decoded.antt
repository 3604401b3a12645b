-- The scalars that bytes spell, as a function (the Unicode Standard, section 3.9).
use Rattle.std.specs.Prelude.{ℕ, ◌+◌, ◌*◌, ◌-◌, ◌&&◌, nat_lt, nat_le, if◌then◌else◌, List, []}
use Rattle.std.specs.Prelude.{◌∷◌, Option, Some, None}
use Rattle.std.specs.List.{list_all}
use Rattle.std.specs.Str.{all_scalars, bytes_eq, chars}
use Rattle.cm_text.specs.Utf16.{units}
use Rattle.cm_abi_model.specs.Texts.{Charset, utf8, utf16, latin1}
use Rattle.cm_abi_model.specs.Requests.{text_bytes}

-- scalars, where they are some and the bytes are their text
abbrev pub if_text : Charset → List ℕ → List ℕ → Option (List ℕ)
if_text s bytes scalars =
    if all_scalars scalars && bytes_eq (text_bytes s scalars) bytes then Some scalars else None

-- the scalars of units of UTF-16, if they are a text: each unit from 0xD800 on and below 0xDC00 is
-- taken together with the one behind it
abbrev pub unpaired : List ℕ → List ℕ
unpaired [] = []
unpaired (u ∷ []) = u ∷ []
unpaired (u ∷ v ∷ us) =
    if nat_le 0xD800 u && nat_lt u 0xDC00
    then (0x10000 + (u - 0xD800) * 0x400 + (v - 0xDC00)) ∷ unpaired us
    else u ∷ unpaired (v ∷ us)

-- the scalars of a text; none where the bytes are no text
unfoldable pub decoded : Charset → List ℕ → Option (List ℕ)
decoded utf8 bytes = if_text utf8 bytes (chars bytes)
decoded utf16 bytes = if_text utf16 bytes (unpaired (units bytes))
decoded latin1 bytes = if list_all (λ b. nat_lt b 0x100) bytes then Some bytes else None
