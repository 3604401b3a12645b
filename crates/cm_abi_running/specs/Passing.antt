-- What passing a value on by its puts comes to: numbers, each with its core value, and bytes behind
-- them, each with its address (CanonicalABI.md, "Flat Lifting" and "Flat Lowering").
use Rattle.std.specs.Prelude.{ℕ, zero, suc, ◌+◌, ◌%◌, ◌^◌, ◌==◌, not, if◌then◌else◌}
use Rattle.std.specs.Prelude.{List, [], ◌++◌}
use Rattle.cm_types.specs.declared.core_value.CoreValue.{CoreValue}
use Rattle.cm_types.specs.Values.{Val}
use Rattle.cm_layout.specs.Shapes.{Shape}
use Rattle.cm_layout.specs.declared.layouts.Leaf.{Leaf}
use Rattle.cm_layout.specs.declared.layouts.Leaf.TheVariants as leaf
use Rattle.cm_abi_model.specs.Numbers.{as_signed, wrapped_at}
use Rattle.cm_abi_model.specs.Parts.{handle_count, part_count}
use Rattle.cm_abi_model.specs.Receives.{put}
use Rattle.cm_abi_model.specs.Requests.{text_bytes, text_units}
use Rattle.cm_abi_model.specs.Stores.{Given, Placed, from_signed, number_of, place_of, placed}
use Rattle.cm_abi_load.specs.Reading.{Source}
use Rattle.cm_abi_load.specs.Sized.{core_size}
use Rattle.cm_abi_store.specs.FlatLowering.{behind_by, slots_by}
use Rattle.cm_abi_running.specs.Putting.{Written, all_written, scalars_of_text, written_each}
use Rattle.cm_abi_programs.specs.SlotPuts.{SlotPut, SlotPuts, CaseSlotPuts, no_slots, slot}
use Rattle.cm_abi_programs.specs.SlotPuts.{no_cases, case, leaf_slot, text_slot, list_slot}
use Rattle.cm_abi_programs.specs.SlotPuts.{each_slot, cases_slot, handle_slot, part_slot}

-- Numbers that are put into core values, bytes that are written behind them, and the part and the
-- handle that come next.
pub record PassedOn : Type 0 where
  pub numbers : List Placed
  pub bytes : List Placed
  pub part : ℕ
  pub handle : ℕ

-- nothing is passed on
abbrev pub nothing_passed : ℕ → ℕ → PassedOn
nothing_passed k h = record { numbers = []; bytes = []; part = k; handle = h }

-- one number is, which has no part and no handle
abbrev pub number_passed : ℕ → ℕ → ℕ → ℕ → PassedOn
number_passed s n k h = record { numbers = put s n; bytes = []; part = k; handle = h }

-- a pointer and a length are, with what is written behind them
abbrev pub pointer_passed : ℕ → ℕ → ℕ → Written → PassedOn
pointer_passed s at n a =
    record {
      numbers = put s at ++ put (s + 1) n;
      bytes = a.bytes;
      part = a.part;
      handle = a.handle;
    }

-- what is passed on next, behind what was
abbrev pub passed_then : PassedOn → (ℕ → ℕ → PassedOn) → PassedOn
passed_then a next =
    record {
      numbers = a.numbers ++ (next a.part a.handle).numbers;
      bytes = a.bytes ++ (next a.part a.handle).bytes;
      part = (next a.part a.handle).part;
      handle = (next a.part a.handle).handle;
    }

-- the number that a leaf is passed on as, from the one that it is read from
abbrev pub number_on : Leaf → ℕ → ℕ
number_on leaf.Bool n = if not (n == 0) then 1 else 0
number_on (leaf.Signed w) n =
    if w == 8 then from_signed 8 (as_signed w n) else from_signed 8 (as_signed w n) % 2 ^ 32
number_on (leaf.Unsigned w) n = n
number_on leaf.Char n = n
number_on (leaf.Flags labels w) n = n % 2 ^ labels

-- the bytes of a string of these scalars, at the place of its part
abbrev pub text_behind : Given → List ℕ → ℕ → ℕ → Written
text_behind g cs k h =
    record { bytes = placed (place_of g k) (text_bytes g.charset cs); part = k + 1; handle = h }

-- a string at a pointer, of a tagged length, is
abbrev pub text_passed : Source → Given → ℕ → ℕ → ℕ → ℕ → ℕ → PassedOn
text_passed w g s at n k h =
    pointer_passed s (place_of g k) (text_units g.charset (scalars_of_text w at n))
    (text_behind g (scalars_of_text w at n) k h)

-- so many values, so far one behind the other
abbrev pub passed_each : (ℕ → ℕ → ℕ → PassedOn) → ℕ → ℕ → ℕ → ℕ → ℕ → PassedOn
passed_each W d zero s k h = nothing_passed k h
passed_each W d (suc n) s k h = passed_then (W s k h) (passed_each W d n (s + d))

abbrev mutual
  -- a value in the core values from one on is passed on by a put, from the part and the handle of
  -- these numbers on
  pub passed_on : Source → Given → List CoreValue → SlotPut → ℕ → ℕ → ℕ → PassedOn
  passed_on w g slots (leaf_slot at l) s k h =
      number_passed (s + at) (number_on l (wrapped_at (core_size l) slots (s + at))) k h
  passed_on w g slots (text_slot at) s k h =
      text_passed w g (s + at) (wrapped_at 4 slots (s + at)) (wrapped_at 4 slots (s + at + 1)) k h
  passed_on w g slots (list_slot at d cs) s k h =
      pointer_passed (s + at) (place_of g k) (wrapped_at 4 slots (s + at + 1))
      (written_each (all_written w g cs) d (wrapped_at 4 slots (s + at + 1))
      (wrapped_at 4 slots (s + at)) (place_of g k) (k + 1) h)
  passed_on w g slots (each_slot at d n cs) s k h =
      passed_each (all_passed w g slots cs) d n (s + at) k h
  passed_on w g slots (cases_slot at cs) s k h =
      passed_then (number_passed (s + at) (wrapped_at 4 slots (s + at)) k h)
      (case_passed w g slots cs (wrapped_at 4 slots (s + at)) (s + at + 1))
  passed_on w g slots (handle_slot at) s k h =
      record { numbers = put (s + at) (number_of g h); bytes = []; part = k; handle = h + 1 }
  passed_on w g slots (part_slot at cs) s k h = all_passed w g slots cs (s + at) k h

  -- by puts in order
  pub all_passed : Source → Given → List CoreValue → SlotPuts → ℕ → ℕ → ℕ → PassedOn
  all_passed w g slots no_slots s k h = nothing_passed k h
  all_passed w g slots (slot c cs) s k h =
      passed_then (passed_on w g slots c s k h) (all_passed w g slots cs s)

  -- what the case of this number carries is
  pub case_passed : Source → Given → List CoreValue → CaseSlotPuts → ℕ → ℕ → ℕ → ℕ → PassedOn
  case_passed w g slots no_cases i s k h = nothing_passed k h
  case_passed w g slots (case cs rest) zero s k h = all_passed w g slots cs s k h
  case_passed w g slots (case cs rest) (suc i) s k h = case_passed w g slots rest i s k h

-- a value is lowered by its layout into the core values from one on, from the part and the handle
-- of these numbers on
abbrev pub lowered_as : Given → Shape → Val → ℕ → ℕ → ℕ → PassedOn
lowered_as g x v s k h =
    record {
      numbers = slots_by g x v s k h;
      bytes = behind_by g x v k h;
      part = k + part_count v;
      handle = h + handle_count v;
    }
