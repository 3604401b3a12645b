-- How many bytes a string takes in another encoding (CanonicalABI.md, "Storing" of strings).
use Rattle.std.specs.Prelude.{ℕ, length}
use Rattle.cm_types.specs.Values.{Val, text}
use Rattle.cm_abi_model.specs.Texts.{Charset}
use Rattle.cm_abi_model.specs.Requests.{text_bytes}

-- how many bytes the string takes; what is no string takes none
abbrev pub text_length : Charset → Val → ℕ
text_length s (text cs) = length (text_bytes s cs)
text_length s v = 0
