-- Latin-1 (ISO/IEC 8859-1; CanonicalABI.md, the encoding `latin1+utf16`).
use Rattle.std.specs.Prelude.{ℕ, ◌<◌, List, [], ◌∷◌}

-- the scalars of Latin-1 are the first 256
abbrev pub HasLatin1 : ℕ → Type 0
HasLatin1 c = c < 0x100

-- a scalar of Latin-1 is the byte of its value
abbrev pub spell_latin1 : ℕ → List ℕ
spell_latin1 c = c ∷ []
