-- Multiples of an alignment (CanonicalABI.md, "Alignment").
use Rattle.std.specs.Prelude.{◌≡◌, ℕ, ◌+◌, ◌-◌, ◌*◌, ◌/◌, ◌≤◌}

-- the least multiple of an alignment that is not below an end
abbrev pub align_to : ℕ → ℕ → ℕ
align_to align end = (end + (align - 1)) / align * align

-- the least multiple in words: the number is a multiple, not below the end, and not above any other
-- such multiple
pub record IsLeastMultiple (align end at : ℕ) : Type 0 where
  pub multiple : (k : ℕ) × (at ≡ k * align)
  pub above : end ≤ at
  pub least : (j : ℕ) → end ≤ j * align → at ≤ j * align
