-- Regions of a memory that are given out one behind the other (CanonicalABI.md, "Storing": what
-- `realloc` answers is aligned and inside the memory; the rest is this project's own choice).
use Rattle.std.specs.Prelude.{◌≡◌, ℕ, ◌+◌, ◌*◌, ◌%◌, ◌<◌, ◌≤◌, ◌⊎◌, ⊤, List, [], ◌∷◌}
use Rattle.std.specs.Int.{next_multiple_of}
use Rattle.std.specs.List.{AllByRecursion}
use Rattle.cm_machine_guests.specs.declared.bump.Bump.{Bump}
use Rattle.cm_machine_guests.specs.declared.bump.Room.{Room}
use Rattle.cm_machine_guests.specs.declared.bump.Room.TheVariants as room
use Rattle.cm_machine_model.specs.declared.limits.TheConstants.{PAGE_SIZE}

-- where the next region of this alignment starts
abbrev pub region_at : Bump → ℕ → ℕ
region_at b align = next_multiple_of b.next align

-- the range has room for one more region of this size and alignment
pub record HasRoom (b : Bump) (size align : ℕ) : Type 0 where
  pub aligns : 0 < align
  pub inside : region_at b align + size ≤ b.end

-- The region at this address is given out: it is aligned, behind all that were given out before,
-- and inside the range; what comes later comes behind it.
pub record IsGiven (old : Bump) (size align at : ℕ) (new : Bump) : Type 0 where
  pub there : at ≡ region_at old align
  pub aligned : at % align ≡ 0
  pub behind : old.next ≤ at
  pub inside : at + size ≤ old.end
  pub next : new ≡ record { next = at + size; end = old.end }

-- so many pages more, and not one less, make a memory of so many bytes reach this end
pub record IsGrowth (bytes end pages : ℕ) : Type 0 where
  pub reaches : end ≤ bytes + pages * PAGE_SIZE
  pub least : (fewer : ℕ) → fewer < pages → bytes + fewer * PAGE_SIZE < end

-- The answer to a request for a region, where the memory has so many bytes. Nothing is given out
-- before the memory reaches the region's end.
abbrev pub IsAnswer : Bump → ℕ → ℕ → ℕ → Room → Bump → Type 0
IsAnswer old size align bytes (room.At at) new =
    IsGiven old size align at new × (at + size ≤ bytes)
IsAnswer old size align bytes (room.Grow pages) new =
    HasRoom old size align × (0 < pages) × IsGrowth bytes (region_at old align + size) pages
    × (new ≡ old)
IsAnswer old size align bytes room.Full new = (HasRoom old size align → ⊥) × (new ≡ old)

-- ---- many regions

pub record Region : Type 0 where
  pub at : ℕ
  pub size : ℕ
  pub align : ℕ

-- these regions were given out one after the other
abbrev pub AreGiven : Bump → List Region → Bump → Type 0
AreGiven old [] new = new ≡ old
AreGiven old (r ∷ rs) new =
    (mid : Bump) × IsGiven old r.size r.align r.at mid × AreGiven mid rs new

-- no byte is in both
abbrev pub IsApart : Region → Region → Type 0
IsApart r q = (r.at + r.size ≤ q.at) ⊎ (q.at + q.size ≤ r.at)

-- no two of these regions have a byte in common
abbrev pub AreApart : List Region → Type 0
AreApart [] = ⊤
AreApart (r ∷ rs) = AllByRecursion (IsApart r) rs × AreApart rs

-- a region is inside the range that is left, and aligned
pub record IsInside (b : Bump) (r : Region) : Type 0 where
  pub behind : b.next ≤ r.at
  pub inside : r.at + r.size ≤ b.end
  pub aligned : r.at % r.align ≡ 0
