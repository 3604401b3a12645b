-- Places for marks.
use Rattle.std.specs.Prelude.{◌≡◌, ◌≢◌, ◌<◌, ◌≤◌, ◌+◌, ℕ, List, get_or, length}

-- a place is one of the 16 from a home on, and the first of them that is not marked
pub record IsRoom (marks : List ℕ) (home place : ℕ) : Type 0 where
  pub there : place < length marks
  pub behind : home ≤ place
  pub near : place < home + 16
  pub empty : get_or marks place 0 ≡ 0
  pub first : (i : ℕ) → home ≤ i → i < place → get_or marks i 0 ≢ 0
