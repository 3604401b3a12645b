-- Texts and their spellings in bytes (the Unicode Standard, section 3.9, "Unicode Encoding Forms",
-- and section 3.10, "Unicode Encoding Schemes"; CanonicalABI.md, "Loading" and "Storing" of
-- strings). An encoding is given by the scalars that have a spelling and by the bytes of each
-- spelling.
use Rattle.std.specs.Prelude.{◌≡◌, ℕ, ◌<◌, List, ◌++◌, length, take}
use Rattle.std.specs.List.{AllByRecursion, flat_map}

-- the bytes are the text of these scalars: the spelling of one after that of the other
pub record IsText (has : ℕ → Type 0) (spell : ℕ → List ℕ) (scalars bytes : List ℕ) : Type 0 where
  pub all : AllByRecursion has scalars
  pub is : flat_map spell scalars ≡ bytes

-- the bytes are the text of some scalars
abbrev pub IsSomeText : (ℕ → Type 0) → (ℕ → List ℕ) → List ℕ → Type 0
IsSomeText has spell bytes = (scalars : List ℕ) × IsText has spell scalars bytes

-- the first n bytes are the longest beginning that is a text, and at least one byte follows
pub record IsTextUpTo (has : ℕ → Type 0) (spell : ℕ
    → List ℕ) (bytes : List ℕ) (n : ℕ) : Type 0 where
  pub short : n < length bytes
  pub front : IsSomeText has spell (take n bytes)
  pub longest : (m : ℕ) (scalars : List ℕ) → n < m → IsText has spell scalars (take m bytes) → ⊥

-- the bytes are a text that takes this many bytes in another spelling
pub record IsTextOfSize (has : ℕ → Type 0) (spell spell_to : ℕ
    → List ℕ) (bytes : List ℕ) (size : ℕ) : Type 0 where
  pub scalars : List ℕ
  pub text : IsText has spell scalars bytes
  pub size_is : length (flat_map spell_to scalars) ≡ size

-- the other bytes are the same text in another spelling
abbrev pub IsSameText : (ℕ → Type 0) → (ℕ → List ℕ) → (ℕ → List ℕ) → List ℕ → List ℕ → Type 0
IsSameText has spell spell_to bytes other =
    (scalars : List ℕ) → IsText has spell scalars bytes → other ≡ flat_map spell_to scalars

-- the bytes begin with the spelling of a scalar, which takes this many of them
pub record BeginsWith (has : ℕ → Type 0) (spell : ℕ
    → List ℕ) (bytes : List ℕ) (c size : ℕ) : Type 0 where
  pub spelled : has c
  pub rest : List ℕ
  pub is : bytes ≡ spell c ++ rest
  pub size_is : length (spell c) ≡ size

-- the bytes begin with the spelling of some scalar
abbrev pub BeginsWithSome : (ℕ → Type 0) → (ℕ → List ℕ) → List ℕ → Type 0
BeginsWithSome has spell bytes = (c : ℕ) × ((size : ℕ) × BeginsWith has spell bytes c size)
