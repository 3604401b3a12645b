-- Lists of what fields have, each of a field that begins at its place, as one.
use Rattle.std.specs.Prelude.{ℕ, ◌+◌, List, [], ◌∷◌, length, nat_lt, if◌then◌else◌}
use Rattle.cm_abi_programs.specs.Checks.{Checks, both_checks, no_checks, placed_checks}
use Rattle.cm_abi_programs.specs.Puts.{Puts, with_placed}
use Rattle.cm_abi_programs.specs.SlotPuts.{SlotPuts, both_slots, no_slots, placed_slots}
use Rattle.cm_abi_programs.specs.declared.limits.TheConstants.{FEW}

abbrev pub checks_placed : List ℕ → List Checks → Checks
checks_placed [] cs = no_checks
checks_placed (o ∷ os) [] = no_checks
checks_placed (o ∷ os) (c ∷ cs) = both_checks (placed_checks o c) (checks_placed os cs)

abbrev pub slots_placed : List ℕ → List SlotPuts → SlotPuts
slots_placed [] cs = no_slots
slots_placed (o ∷ os) [] = no_slots
slots_placed (o ∷ os) (c ∷ cs) = both_slots (placed_slots o c) (slots_placed os cs)

-- puts with those behind them
abbrev pub puts_placed : List ℕ → List Puts → Puts → Puts
puts_placed [] cs front = front
puts_placed (o ∷ os) [] front = front
puts_placed (o ∷ os) (c ∷ cs) front = puts_placed os cs (with_placed o front c)

-- how many members the list of a whole has of a list of so many of a field, and of those of all
-- fields: one where that list is shared, else its own
abbrev pub member_count : ℕ → ℕ
member_count n = if nat_lt FEW n then 1 else n

abbrev pub member_counts : {A : Type 0} → List (List A) → ℕ
member_counts [] = 0
member_counts (c ∷ cs) = member_count (length c) + member_counts cs
