-- The sizes of numbers and of leaves (CanonicalABI.md, "Element Size").
use Rattle.std.specs.Prelude.{◌≡◌, ℕ, ◌≤◌, ◌⊎◌, ⊤}
use Rattle.cm_layout.specs.declared.layouts.Leaf.{Leaf}
use Rattle.cm_layout.specs.declared.layouts.Leaf.TheVariants as leaf

-- a number has so many bytes
abbrev pub IsNumberSize : ℕ → Type 0
IsNumberSize n = (n ≡ 1) ⊎ (n ≡ 2) ⊎ (n ≡ 4) ⊎ (n ≡ 8)

abbrev pub IsSizedLeaf : Leaf → Type 0
IsSizedLeaf leaf.Bool = ⊤
IsSizedLeaf (leaf.Signed w) = IsNumberSize w
IsSizedLeaf (leaf.Unsigned w) = IsNumberSize w
IsSizedLeaf leaf.Char = ⊤
IsSizedLeaf (leaf.Flags labels w) = IsNumberSize w × (w ≤ 4)

-- how many bytes of a core value a leaf is read from; what is above them is left out
abbrev pub core_size : Leaf → ℕ
core_size leaf.Bool = 4
core_size (leaf.Signed w) = w
core_size (leaf.Unsigned w) = w
core_size leaf.Char = 4
core_size (leaf.Flags labels w) = 4
