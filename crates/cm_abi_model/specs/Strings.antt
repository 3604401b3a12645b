-- Strings in memory, in the standard's words (CanonicalABI.md, "Loading", `load_string` and
-- `load_string_from_range`).
use Rattle.std.specs.Prelude.{◌≡◌, ℕ, ◌+◌, ◌*◌, ◌^◌, ◌<◌, ◌≤◌, ◌⊎◌, List, length, slice_index}
use Rattle.std.specs.Char.{IsScalar}
use Rattle.std.specs.Char.Escape.{encode_utf16}
use Rattle.std.specs.List.{AllByRecursion, flat_map}
use Rattle.cm_text.specs.Utf8.{spell_utf8}
use Rattle.cm_abi_model.specs.declared.encoding.StringEncoding.{StringEncoding}
use Rattle.cm_abi_model.specs.declared.encoding.StringEncoding.TheVariants as encoding
use Rattle.cm_abi_model.specs.Views.{View}
use Rattle.cm_abi_model.specs.Bytes.{StandsAt}

-- numbers stand in a row from an address on, each in so many bytes, all inside the memory
pub record StandInRow (memory : List ℕ) (at bytes : ℕ) (ns : List ℕ) : Type 0 where
  pub inside : at + bytes * length ns ≤ length memory
  pub each : (i : ℕ) → i < length ns → StandsAt memory (at + bytes * i) bytes (slice_index ns i)

-- the units of characters: bytes in UTF-8, numbers of 16 bits in UTF-16
abbrev pub utf8_units : List ℕ → List ℕ
utf8_units scalars = flat_map spell_utf8 scalars

abbrev pub utf16_units : List ℕ → List ℕ
utf16_units scalars = flat_map encode_utf16 scalars

-- so many units, each in so many bytes, stand in a row at a pointer, which is a multiple of an
-- alignment
pub record AreUnits (memory : List ℕ) (align bytes at n : ℕ) (units : List ℕ) : Type 0 where
  pub aligned : (k : ℕ) × (at ≡ k * align)
  pub count : n ≡ length units
  pub row : StandInRow memory at bytes units

-- The units of these characters stand at a pointer, by a length: it counts bytes in UTF-8 and units
-- of 16 bits in UTF-16. In `latin1+utf16` a length below 2 to the 31 counts characters, each of
-- which is a byte; one with that bit set counts units of UTF-16 by the other bits. The pointer is
-- even but in UTF-8.
abbrev pub AreUnitsIn : StringEncoding → List ℕ → ℕ → ℕ → List ℕ → Type 0
AreUnitsIn encoding.Utf8 memory at n scalars = AreUnits memory 1 1 at n (utf8_units scalars)
AreUnitsIn encoding.Utf16 memory at n scalars = AreUnits memory 2 2 at n (utf16_units scalars)
AreUnitsIn encoding.Latin1OrUtf16 memory at n scalars =
    ((n < 2 ^ 31) × AreUnits memory 2 1 at n scalars)
    ⊎ ((m : ℕ) × (n ≡ 2 ^ 31 + m) × AreUnits memory 2 2 at m (utf16_units scalars))

-- a pointer and a length are a string of these characters, each of which is a Unicode scalar
pub record IsString (w : View) (at n : ℕ) (scalars : List ℕ) : Type 0 where
  pub scalars_are : AllByRecursion IsScalar scalars
  pub units : AreUnitsIn w.encoding w.memory at n scalars

-- a string is 4 bytes of its pointer, and behind them 4 bytes of its length
pub record IsStringAt (w : View) (p : ℕ) (scalars : List ℕ) : Type 0 where
  pub pointer : ℕ
  pub length : ℕ
  pub pointer_first : StandsAt w.memory p 4 pointer
  pub length_behind : StandsAt w.memory (p + 4) 4 length
  pub string : IsString w pointer length scalars
