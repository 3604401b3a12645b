-- What canonical options name (CanonicalABI.md, "Canonical Definitions").
use Rattle.std.specs.Prelude.{ℕ, ◌==◌, Bool, false, List, [], ◌∷◌, Option, Some, None, unwrap_or}
use Rattle.std.specs.Option.{option_map_or, option_or}
use Rattle.cm_abi_model.specs.declared.encoding.StringEncoding.{StringEncoding}
use Rattle.cm_abi_model.specs.declared.encoding.StringEncoding.TheVariants as encoding
use Rattle.cm_binary_model.specs.declared.canons.CanonOption.{CanonOption}
use Rattle.cm_binary_model.specs.declared.canons.CanonOption.TheVariants as option

-- whether there is a number, and it is this one
abbrev pub is_number : ℕ → Option ℕ → Bool
is_number n o = option_map_or (λ m. n == m) o false

-- what the first option of a kind says, if there is one
abbrev pub first_in : {A : Type 0} → (CanonOption → Option A) → List CanonOption → Option A
first_in said [] = None
first_in said (o ∷ os) = option_or (said o) (first_in said os)

abbrev pub encoding_in : CanonOption → Option StringEncoding
encoding_in option.Utf8 = Some encoding.Utf8
encoding_in option.Utf16 = Some encoding.Utf16
encoding_in option.Latin1Utf16 = Some encoding.Latin1OrUtf16
encoding_in _ = None

abbrev pub memory_in : CanonOption → Option ℕ
memory_in (option.Memory m) = Some m
memory_in _ = None

abbrev pub realloc_in : CanonOption → Option ℕ
realloc_in (option.Realloc f) = Some f
realloc_in _ = None

abbrev pub post_return_in : CanonOption → Option ℕ
post_return_in (option.PostReturn f) = Some f
post_return_in _ = None

-- strings are in UTF-8 where no option says more
abbrev pub encoding_of : List CanonOption → StringEncoding
encoding_of options = unwrap_or (first_in encoding_in options) encoding.Utf8
