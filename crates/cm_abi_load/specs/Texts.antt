-- The string that a pointer leads to (CanonicalABI.md, "Loading").
use Rattle.std.specs.Prelude.{ℕ, List, ◌++◌, Option, Some, None, Ok, Err}
use Rattle.cm_types.specs.Values.{Val, text}
use Rattle.cm_abi_model.specs.declared.encoding.StringEncoding.{StringEncoding}
use Rattle.cm_abi_model.specs.declared.fault.AbiFault.TheVariants as fault
use Rattle.cm_abi_model.specs.Texts.{bytes_from, charset_of, tag_of, text_align, text_size}
use Rattle.cm_abi_load.specs.Decoded.{decoded}
use Rattle.cm_abi_load.specs.Leaves.{region}
use Rattle.cm_abi_load.specs.Outcomes.{Outcome, State, ◌>>=◌}

-- a text, where its bytes are one
abbrev pub text_value : Option (List ℕ) → State → Outcome Val
text_value None s = Err (fault.BadText, s)
text_value (Some cs) s = Ok (text cs, s)

-- the reader has met one more string, of a tagged length
abbrev pub after_text : StringEncoding → ℕ → State → State
after_text e n s = record s { tags = s.tags ++ tag_of e n }

-- the string at a pointer, of a tagged length
unfoldable pub read_text : List ℕ → StringEncoding → ℕ → ℕ → State → Outcome Val
read_text memory e at n s =
    region memory (text_align e) at (text_size e n) s >>= λ r.
    text_value (decoded (charset_of e n) (bytes_from memory at (text_size e n)))
    (after_text e n r.1)
