-- How a host reads the memory of its instance (CanonicalABI.md, "Lifting and Lowering Context").
use Rattle.std.specs.Prelude.{◌≡◌, ℕ, List}
use Rattle.cm_abi_model.specs.declared.encoding.StringEncoding.{StringEncoding}
use Rattle.cm_abi_model.specs.declared.encoding.StringEncoding.TheVariants.{Utf8}
use Rattle.cm_abi_model.specs.Views.{View}

-- a view of this memory, whose strings have this encoding
pub record IsReadIn (encoding : StringEncoding) (w : View) (memory : List ℕ) : Type 0 where
  pub memory_is : w.memory ≡ memory
  pub encoding_is : w.encoding ≡ encoding

-- a view of this memory, whose strings are in UTF-8
abbrev pub IsReadBy : View → List ℕ → Type 0
IsReadBy = IsReadIn Utf8
