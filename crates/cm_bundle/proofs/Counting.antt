-- What one more adds to the counts.
use Rattle.std.proofs.Common.{ℕ, suc, ◌+◌, ◌≤◌, arith}
use Rattle.cm_bundle.specs.declared.form.Sort.{Sort}
use Rattle.cm_bundle.specs.declared.form.Sort.TheVariants as sorts
use Rattle.cm_bundle.specs.declared.spaces.Counts.{Counts}
use Rattle.cm_bundle.specs.Room.{HasRoom}
use Rattle.cm_bundle.specs.Spelled.{counted}

pub counted_within : (c : Counts) (sort : Sort) → ((counted c sort).functions ≤ c.functions + 1) × ((counted c sort).instances ≤ c.instances + 1)
counted_within c sorts.Func = (omega arith, omega arith)
counted_within c sorts.Instance = (omega arith, omega arith)

-- Room for so many leaves room for one, and behind one for the others.
pub room_one : (c : Counts) (n : ℕ) → HasRoom c n → 1 ≤ n → HasRoom c 1
room_one c n h le = (omega (arith, h.0, le), omega (arith, h.1, le))

pub room_next : (c : Counts) (sort : Sort) (n m : ℕ) → HasRoom c n → suc m ≤ n → HasRoom (counted c sort) m
room_next c sort n m h le =
    let w = counted_within c sort in
    (omega (arith, h.0, w.0, le), omega (arith, h.1, w.1, le))
