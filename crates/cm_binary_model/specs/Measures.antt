-- Lengths as they are counted.
use Rattle.std.specs.Prelude.{ℕ, ◌-◌, ◌^◌, min}

-- The count, or the greatest number of 64 bits where it is more.
abbrev pub saturate : ℕ → ℕ
saturate n = min n (2 ^ 64 - 1)
