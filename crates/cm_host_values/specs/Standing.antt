-- Bytes at the start of a memory (CanonicalABI.md, "Lifting and Lowering Context").
use Rattle.std.specs.Prelude.{◌≡◌, ℕ, ◌<◌, ◌≤◌, ◌^◌, List, length, slice_index}
use Rattle.cm_abi_model.specs.declared.encoding.StringEncoding.TheVariants.{Utf8}
use Rattle.cm_abi_model.specs.Views.{View}

-- a view of a memory, one of less than 2^32 bytes, that begins with these bytes, and whose strings
-- are in UTF-8
pub record BeginsWith (w : View) (bytes : List ℕ) : Type 0 where
  pub longer : length bytes ≤ length w.memory
  pub stand : (a : ℕ) → a < length bytes → slice_index w.memory a ≡ slice_index bytes a
  pub small : length w.memory < 2 ^ 32
  pub encoding_is : w.encoding ≡ Utf8
