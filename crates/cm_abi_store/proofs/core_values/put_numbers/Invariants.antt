use Rattle.std.proofs.Common.{◌≡◌, ℕ, ◌<◌, length, map}
use Rattle.std.specs.Prelude.{slice_index}
use Rattle.cm_types.specs.CoreValues.{kind_of}
use Rattle.cm_abi_model.specs.Numbers.{slot_at}
use Rattle.cm_abi_store.proofs.core_values.put_numbers.Given as goal

-- kinds stay, and the core values before this one have their numbers
abbrev pub invariant-loop-i : goal.invariant-loop-i
invariant-loop-i l =
    (length l.slots ≡ length l.initial.slots)
    × (map kind_of l.slots ≡ map kind_of l.initial.slots)
    × ((k : ℕ) → k < l.i → slot_at l.slots k ≡ slice_index l.numbers k)
