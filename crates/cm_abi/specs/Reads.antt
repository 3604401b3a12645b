-- What a memory reads, and parts that are told alike (CanonicalABI.md, "Loading" of strings and
-- lists).
use Rattle.std.specs.Prelude.{◌≡◌, ℕ, ◌+◌, ◌*◌, ◌<◌, ⊤, List, [], ◌∷◌, length, slice_index}
use Rattle.cm_abi_model.specs.Parts.{Part, text_part, element_part}

-- these bytes stand in a memory from an address on
abbrev pub ReadsBytes : List ℕ → ℕ → List ℕ → Type 0
ReadsBytes memory at bytes =
    (i : ℕ) → i < length bytes → slice_index memory (at + i) ≡ slice_index bytes i

-- strings of the same characters, or as many elements, aligned alike, of as many bytes in all
abbrev pub AreAlike : Part → Part → Type 0
AreAlike (text_part scalars) (text_part others) = scalars ≡ others
AreAlike (element_part n size align) (element_part m size_2 align_2) =
    (n ≡ m) × (n * size ≡ m * size_2) × (align ≡ align_2)
AreAlike part other = ⊥

-- two lists have as many parts, and each part is told alike the other list's at its place
abbrev pub AreAllAlike : List Part → List Part → Type 0
AreAllAlike [] [] = ⊤
AreAllAlike (part ∷ parts) (other ∷ others) = AreAlike part other × AreAllAlike parts others
AreAllAlike parts others = ⊥
