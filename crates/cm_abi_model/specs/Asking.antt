-- Requests for the memory of a string, in the standard's words (CanonicalABI.md, "Storing",
-- `store_string_copy`, `store_string_to_utf8` and `store_utf8_to_utf16`).
use Rattle.std.specs.Prelude.{◌≡◌, ℕ, ◌*◌, ◌<◌, ◌≤◌, true, false, List, ◌∷◌, length, slice_index}
use Rattle.std.specs.List.{AllByRecursion}
use Rattle.cm_abi_model.specs.declared.request.Request.{Request}
use Rattle.cm_abi_model.specs.Strings.{utf16_units, utf8_units}

-- `realloc(0, 0, align, size)`
abbrev pub fresh : ℕ → ℕ → Request
fresh align size = record { chained = false; old_size = 0; align = align; size = size }

-- `realloc(ptr, old_size, align, size)`, where `ptr` is the answer to the request before it
abbrev pub again : ℕ → ℕ → ℕ → Request
again old_size align size =
    record { chained = true; old_size = old_size; align = align; size = size }

-- a character of ASCII is below 0x80
abbrev pub IsAscii : ℕ → Type 0
IsAscii c = c < 0x80

-- some character is none of ASCII
abbrev pub HasOther : List ℕ → Type 0
HasOther scalars = (i : ℕ) × (i < length scalars) × (0x80 ≤ slice_index scalars i)

-- A string that is stored in UTF-8, and was in something else, asks for a byte a unit. Where a
-- character is none of ASCII it then asks for the most bytes that its units may take, and, where it
-- takes fewer, at last for those that it takes. What others ask for comes behind.
pub record AsksToUtf8 (units most : ℕ) (scalars : List ℕ) (all others : List Request)
    : Type 0 where
  pub plain : AllByRecursion IsAscii scalars → all ≡ fresh 1 units ∷ others
  pub grown : HasOther scalars → length (utf8_units scalars) < most
      → all
      ≡ fresh 1 units ∷ again units 1 most ∷ again most 1 (length (utf8_units scalars)) ∷ others
  pub filled : HasOther scalars → most ≤ length (utf8_units scalars)
      → all ≡ fresh 1 units ∷ again units 1 most ∷ others

-- One that is stored in UTF-16, and was in UTF-8, asks for two bytes a byte, and then, where it
-- takes fewer, for those that it takes.
pub record AsksToUtf16 (most : ℕ) (scalars : List ℕ) (all others : List Request) : Type 0 where
  pub shrunk : 2 * length (utf16_units scalars) < most
      → all ≡ fresh 2 most ∷ again most 2 (2 * length (utf16_units scalars)) ∷ others
  pub filled : most ≤ 2 * length (utf16_units scalars) → all ≡ fresh 2 most ∷ others
