-- Whether what puts move from core values to others can be copied (CanonicalABI.md, "Flattening"),
-- and where they lie among the core values of a value.
use Rattle.std.specs.Prelude.{ℕ, zero, suc, ◌+◌, ◌*◌, ◌<◌, ◌≤◌, ⊤, List, length}
use Rattle.cm_types.specs.declared.core_value.CoreValue.{CoreValue}
use Rattle.cm_abi_load.specs.Sized.{IsSizedLeaf}
use Rattle.cm_abi_model.specs.Numbers.{wrapped_at}
use Rattle.cm_abi_programs.specs.SlotPuts.{SlotPut, SlotPuts, CaseSlotPuts, no_slots, slot}
use Rattle.cm_abi_programs.specs.SlotPuts.{no_cases, case, leaf_slot, text_slot, list_slot}
use Rattle.cm_abi_programs.specs.SlotPuts.{each_slot, cases_slot, handle_slot, part_slot}
use Rattle.cm_abi_running.specs.Putting.{all_written}
use Rattle.cm_abi_running.specs.Passing.{PassedOn, all_passed, passed_on}
use Rattle.cm_abi_running.specs.Copying.{Copying}
use Rattle.cm_abi_running.specs.Ready.{IsTextReady}
use Rattle.cm_abi_running.specs.PutsReady.{ArePutsReady, IsListPutReady, seen_from}
use Rattle.cm_abi_running.specs.PutsWithin.{ArePutsWithin}

abbrev mutual
  -- what is read and put lies within so many core values from the first one of the value
  pub IsSlotWithin : ℕ → SlotPut → Type 0
  IsSlotWithin n (leaf_slot at l) = (at + 1 ≤ n) × IsSizedLeaf l
  IsSlotWithin n (text_slot at) = at + 2 ≤ n
  IsSlotWithin n (list_slot at d cs) = (at + 2 ≤ n) × ArePutsWithin d cs
  IsSlotWithin n (each_slot at d c cs) = (at + c * d ≤ n) × AreSlotsWithin d cs
  IsSlotWithin n (cases_slot at cs) =
      (m : ℕ) × (at + 1 + m ≤ n) × AreCaseSlotsWithin m cs
  IsSlotWithin n (handle_slot at) = at + 1 ≤ n
  IsSlotWithin n (part_slot at cs) = (m : ℕ) × (at + m ≤ n) × AreSlotsWithin m cs

  -- by each put
  pub AreSlotsWithin : ℕ → SlotPuts → Type 0
  AreSlotsWithin n no_slots = ⊤
  AreSlotsWithin n (slot c cs) = IsSlotWithin n c × AreSlotsWithin n cs

  -- in what each case carries
  pub AreCaseSlotsWithin : ℕ → CaseSlotPuts → Type 0
  AreCaseSlotsWithin n no_cases = ⊤
  AreCaseSlotsWithin n (case cs rest) = AreSlotsWithin n cs × AreCaseSlotsWithin n rest

-- so many values in a row can be copied
abbrev pub AreEachSlotReady : (ℕ → ℕ → ℕ → Type 0) → (ℕ → ℕ → ℕ → PassedOn) → ℕ → ℕ → ℕ → ℕ → ℕ
    → Type 0
AreEachSlotReady R W d zero s k h = ⊤
AreEachSlotReady R W d (suc m) s k h =
    R s k h × AreEachSlotReady R W d m (s + d) (W s k h).part (W s k h).handle

abbrev mutual
  -- what a put moves from the core values from one on can be copied: what its pointers lead to lies
  -- in the source, and its strings are texts; each of its parts, from the one of this number on,
  -- has a place in a memory of so many bytes, and each of its handles a number
  pub IsSlotReady : ℕ → Copying → List CoreValue → SlotPut → ℕ → ℕ → ℕ → Type 0
  IsSlotReady n c slots (leaf_slot at l) s k h = ⊤
  IsSlotReady n c slots (text_slot at) s k h =
      IsTextReady n c (wrapped_at 4 slots (s + at)) (wrapped_at 4 slots (s + at + 1)) k
  IsSlotReady n c slots (list_slot at d cs) s k h =
      IsListPutReady n c (ArePutsReady n c cs) (all_written (seen_from c) c.given cs) d
      (wrapped_at 4 slots (s + at)) (wrapped_at 4 slots (s + at + 1)) k h
  IsSlotReady n c slots (each_slot at d m cs) s k h =
      AreEachSlotReady (AreSlotsReady n c slots cs) (all_passed (seen_from c) c.given slots cs) d m
      (s + at) k h
  IsSlotReady n c slots (cases_slot at cs) s k h =
      IsCaseSlotReady n c slots cs (wrapped_at 4 slots (s + at)) (s + at + 1) k h
  IsSlotReady n c slots (handle_slot at) s k h = h < length c.given.numbers
  IsSlotReady n c slots (part_slot at cs) s k h = AreSlotsReady n c slots cs (s + at) k h

  -- by each put, in order
  pub AreSlotsReady : ℕ → Copying → List CoreValue → SlotPuts → ℕ → ℕ → ℕ → Type 0
  AreSlotsReady n c slots no_slots s k h = ⊤
  AreSlotsReady n c slots (slot x cs) s k h =
      IsSlotReady n c slots x s k h
      × AreSlotsReady n c slots cs s (passed_on (seen_from c) c.given slots x s k h).part
      (passed_on (seen_from c) c.given slots x s k h).handle

  -- what the case of this number carries
  pub IsCaseSlotReady : ℕ → Copying → List CoreValue → CaseSlotPuts → ℕ → ℕ → ℕ → ℕ → Type 0
  IsCaseSlotReady n c slots no_cases i s k h = ⊤
  IsCaseSlotReady n c slots (case cs rest) zero s k h = AreSlotsReady n c slots cs s k h
  IsCaseSlotReady n c slots (case cs rest) (suc i) s k h = IsCaseSlotReady n c slots rest i s k h
