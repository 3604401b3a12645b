-- What holds of each layout: what a type holds lies within it and does not meet, and what is marked
-- as plain bytes is numbers without a gap (CanonicalABI.md, "Alignment" and "Element Size").
use Rattle.std.specs.Prelude.{◌≡◌, ◌↔◌, ℕ, ◌+◌, ◌*◌, ◌≤◌, ◌<◌, ⊤, IsTrue}
use Rattle.cm_layout.specs.declared.heads.Head.{Head}
use Rattle.cm_layout.specs.declared.layouts.Leaf.{Leaf}
use Rattle.cm_layout.specs.declared.layouts.Leaf.TheVariants as leaf
use Rattle.cm_layout.specs.Shapes.{Shape, Parts, Payloads, leaf_shape, string_shape, list_shape}
use Rattle.cm_layout.specs.Shapes.{fixed_list_shape, fields_shape, cases_shape, handle_shape}
use Rattle.cm_layout.specs.Shapes.{no_parts, part, no_payloads, nothing, carried}

-- how many bytes a leaf takes
abbrev pub leaf_size : Leaf → ℕ
leaf_size leaf.Bool = 1
leaf_size (leaf.Signed w) = w
leaf_size (leaf.Unsigned w) = w
leaf_size leaf.Char = 4
leaf_size (leaf.Flags labels bytes) = bytes

abbrev mutual
  -- in so many bytes a type of this shape ends, and what it holds ends within them, each field
  -- behind the one before it, and each payload behind the number of the case; in turn so for what
  -- is held
  pub Laid : ℕ → Shape → Type 0
  Laid n (leaf_shape k) = n ≡ leaf_size k
  Laid n string_shape = n ≡ 8
  Laid n (list_shape e s) = (n ≡ 8) × Laid e.size s
  Laid n (fixed_list_shape e s c) = (n ≡ c * e.size) × Laid e.size s
  Laid n (fields_shape ps) = PartsLaid n 0 ps
  Laid n (cases_shape d o ps) = (d ≤ o) × (o ≤ n) × PayloadsLaid n o ps
  Laid n (handle_shape h) = n ≡ 4

  pub PartsLaid : ℕ → ℕ → Parts → Type 0
  PartsLaid n end no_parts = end ≤ n
  PartsLaid n end (part o e s ps) =
      (end ≤ o) × (o + e.size ≤ n) × Laid e.size s × PartsLaid n (o + e.size) ps

  pub PayloadsLaid : ℕ → ℕ → Payloads → Type 0
  PayloadsLaid n o no_payloads = ⊤
  PayloadsLaid n o (nothing ps) = PayloadsLaid n o ps
  PayloadsLaid n o (carried e s ps) = (o + e.size ≤ n) × Laid e.size s × PayloadsLaid n o ps

abbrev mutual
  -- so many bytes are those of numbers, one behind the other
  pub IsNumbers : ℕ → Shape → Type 0
  IsNumbers n (leaf_shape (leaf.Signed w)) = n ≡ w
  IsNumbers n (leaf_shape (leaf.Unsigned w)) = n ≡ w
  IsNumbers n (fixed_list_shape e s c) = (n ≡ c * e.size) × (0 < c → IsNumbers e.size s)
  IsNumbers n (fields_shape ps) = AreNumbers n 0 ps
  IsNumbers n _ = ⊥

  pub AreNumbers : ℕ → ℕ → Parts → Type 0
  AreNumbers n end no_parts = n ≡ end
  AreNumbers n end (part o e s ps) =
      (o ≡ end) × IsNumbers e.size s × AreNumbers n (o + e.size) ps

abbrev mutual
  -- what is marked as plain bytes are numbers, and nothing else is marked; in turn so for what is
  -- held
  pub IsMarked : Head → Shape → Type 0
  IsMarked h (list_shape e s) = (IsTrue h.is_bulk → ⊥) × IsMarked e s
  IsMarked h (fixed_list_shape e s c) =
      (IsTrue h.is_bulk ↔ IsNumbers h.size (fixed_list_shape e s c)) × IsMarked e s
  IsMarked h (fields_shape ps) =
      (IsTrue h.is_bulk ↔ IsNumbers h.size (fields_shape ps)) × ArePartsMarked ps
  IsMarked h (cases_shape d o ps) = (IsTrue h.is_bulk → ⊥) × ArePayloadsMarked ps
  IsMarked h s = IsTrue h.is_bulk ↔ IsNumbers h.size s

  pub ArePartsMarked : Parts → Type 0
  ArePartsMarked no_parts = ⊤
  ArePartsMarked (part o e s ps) = IsMarked e s × ArePartsMarked ps

  pub ArePayloadsMarked : Payloads → Type 0
  ArePayloadsMarked no_payloads = ⊤
  ArePayloadsMarked (nothing ps) = ArePayloadsMarked ps
  ArePayloadsMarked (carried e s ps) = IsMarked e s × ArePayloadsMarked ps
