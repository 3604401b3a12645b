-- What running puts of core values does to slots and to a memory (CanonicalABI.md, "Flat Lifting"
-- and "Flat Lowering").
use Rattle.std.specs.Prelude.{◌≡◌, ℕ, ◌+◌, ◌≤◌, List, length}
use Rattle.cm_types.specs.declared.core_value.CoreValue.{CoreValue}
use Rattle.cm_abi_model.specs.Numbers.{wrapped_at}
use Rattle.cm_abi_model.specs.Stores.{place_of, poke}
use Rattle.cm_abi_programs.specs.Puts.{Puts}
use Rattle.cm_abi_programs.specs.SlotPuts.{SlotPut, SlotPuts}
use Rattle.cm_abi_running.specs.Passing.{PassedOn, all_passed, passed_on, pointer_passed}
use Rattle.cm_abi_running.specs.Passing.{text_passed}
use Rattle.cm_abi_running.specs.Putting.{written_each}
use Rattle.cm_abi_store.specs.declared.target.Next.{Next}
use Rattle.cm_abi_running.specs.Copying.{Copying}
use Rattle.cm_abi_running.specs.PutsReady.{seen_from}
use Rattle.cm_abi_running.specs.PutsWritten.{running}
use Rattle.cm_abi_running.specs.SlotPutsReady.{AreSlotsWithin, IsSlotWithin}

-- What a put, or each of these, reads and puts of a value whose core values begin with one lies
-- within so many slots.
pub record SlotLiesWithin (c : SlotPut) (s slots : ℕ) : Type 0 where
  pub size : ℕ
  pub within : IsSlotWithin size c
  pub room : s + size ≤ slots

pub record SlotsLieWithin (cs : SlotPuts) (s slots : ℕ) : Type 0 where
  pub size : ℕ
  pub within : AreSlotsWithin size cs
  pub room : s + size ≤ slots

-- what a run of puts from a slot on comes to, from the part and the handle of these numbers on
abbrev pub Passes : Type 0
Passes = ℕ → ℕ → ℕ → PassedOn

-- what puts, and what one put, come to over the core values that pass a value
abbrev pub passing : Copying → List CoreValue → SlotPuts → Passes
passing c given cs = all_passed (seen_from c) c.given given cs

abbrev pub passing_one : Copying → List CoreValue → SlotPut → Passes
passing_one c given x = passed_on (seen_from c) c.given given x

-- what a string comes to whose pointer and length stand in core values
abbrev pub passing_text : Copying → List CoreValue → Passes
passing_text c given s k h =
    text_passed (seen_from c) c.given s (wrapped_at 4 given s) (wrapped_at 4 given (s + 1)) k h

-- what a list comes to whose pointer and length stand in core values, of elements that take so many
-- bytes
abbrev pub passing_list : Copying → List CoreValue → Puts → ℕ → Passes
passing_list c given cs d s k h =
    pointer_passed s (place_of c.given k) (wrapped_at 4 given (s + 1))
    (written_each (running c cs) d (wrapped_at 4 given (s + 1)) (wrapped_at 4 given s)
    (place_of c.given k) (k + 1) h)

-- These numbers were put into slots and these bytes were written, and no others; the part and the
-- handle that come next are these.
pub record PassesOn (a : PassedOn) (after : Next) (old_slots new_slots old new : List ℕ)
    : Type 0 where
  -- each of the numbers is in its slot, and each other slot holds what it held
  pub slots : new_slots ≡ poke a.numbers old_slots
  -- there are as many slots as there were
  pub slots_stay : length new_slots ≡ length old_slots
  -- each of the bytes stands at its address, and each other byte is what it was
  pub stored : new ≡ poke a.bytes old
  -- the memory is as long as it was
  pub stays : length new ≡ length old
  pub part : after.part ≡ a.part
  pub handle : after.handle ≡ a.handle
