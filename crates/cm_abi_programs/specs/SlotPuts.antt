-- What has to be put into core values for the values of a type that core values pass, listed once
-- from its layout (CanonicalABI.md, "Flat Lifting" and "Flat Lowering", say what is put; that it is
-- listed is this project's own choice). A place is counted in core values from the first one of the
-- value, which is alike where it is read and where it is put.
use Rattle.std.specs.Prelude.{ℕ, suc, ◌+◌, Bool, true, false, ◌&&◌, nat_lt, if◌then◌else◌}
use Rattle.cm_layout.specs.Shapes.{Shape, Parts, Payloads, leaf_shape, string_shape}
use Rattle.cm_layout.specs.Shapes.{list_shape, fixed_list_shape, fields_shape, cases_shape}
use Rattle.cm_layout.specs.Shapes.{handle_shape, no_parts, part, no_payloads, nothing, carried}
use Rattle.cm_layout.specs.declared.layouts.Leaf.{Leaf}
use Rattle.cm_layout.specs.declared.layouts.Leaf.TheVariants as leaf
use Rattle.cm_abi_programs.specs.declared.limits.TheConstants.{FEW}
use Rattle.cm_abi_programs.specs.Puts.{Puts, puts_of}

mutual
  pub data SlotPut : Type 0 where
    -- at this place there is the number of a leaf
    leaf_slot : ℕ → Leaf → SlotPut
    -- there is a string
    text_slot : ℕ → SlotPut
    -- there is a list of elements that take so many bytes, and these are the puts of each
    list_slot : ℕ → ℕ → Puts → SlotPut
    -- from there on there are values, so far one behind the other and so many, and these are the
    -- puts of each
    each_slot : ℕ → ℕ → ℕ → SlotPuts → SlotPut
    -- there is the number of a case, with what it carries behind it, and these are the puts of what
    -- each case carries
    cases_slot : ℕ → CaseSlotPuts → SlotPut
    -- there is a handle
    handle_slot : ℕ → SlotPut
    -- a value begins there of which these are the puts
    part_slot : ℕ → SlotPuts → SlotPut

  -- puts in order
  pub data SlotPuts : Type 0 where
    no_slots : SlotPuts
    slot : SlotPut → SlotPuts → SlotPuts

  -- the puts of what each case carries, in order
  pub data CaseSlotPuts : Type 0 where
    no_cases : CaseSlotPuts
    case : SlotPuts → CaseSlotPuts → CaseSlotPuts

-- one put
abbrev pub one_slot : SlotPut → SlotPuts
one_slot c = slot c no_slots

-- puts, and others behind them
abbrev pub both_slots : SlotPuts → SlotPuts → SlotPuts
both_slots no_slots ds = ds
both_slots (slot c cs) ds = slot c (both_slots cs ds)

-- how many puts there are
abbrev pub slot_count : SlotPuts → ℕ
slot_count no_slots = 0
slot_count (slot c cs) = suc (slot_count cs)

-- a put, and puts, of a value that begins so far behind
abbrev pub moved_slot : ℕ → SlotPut → SlotPut
moved_slot o (leaf_slot at l) = leaf_slot (o + at) l
moved_slot o (text_slot at) = text_slot (o + at)
moved_slot o (list_slot at d cs) = list_slot (o + at) d cs
moved_slot o (each_slot at d n cs) = each_slot (o + at) d n cs
moved_slot o (cases_slot at cs) = cases_slot (o + at) cs
moved_slot o (handle_slot at) = handle_slot (o + at)
moved_slot o (part_slot at cs) = part_slot (o + at) cs

abbrev pub moved_slots : ℕ → SlotPuts → SlotPuts
moved_slots o no_slots = no_slots
moved_slots o (slot c cs) = slot (moved_slot o c) (moved_slots o cs)

-- the puts of a field that begins so far behind: where they are few they are written out, else the
-- list is shared
abbrev pub placed_slots : ℕ → SlotPuts → SlotPuts
placed_slots o cs =
    if nat_lt FEW (slot_count cs) then one_slot (part_slot o cs) else moved_slots o cs

-- nothing is put for a value, or for what any case carries
abbrev pub is_unput : SlotPuts → Bool
is_unput no_slots = true
is_unput (slot c cs) = false

abbrev pub are_unput : CaseSlotPuts → Bool
are_unput no_cases = true
are_unput (case cs rest) = is_unput cs && are_unput rest

-- the puts of cases: where nothing is put for what they carry, the number as it is
abbrev pub cases_slots : CaseSlotPuts → SlotPuts
cases_slots cs =
    if are_unput cs then one_slot (leaf_slot 0 (leaf.Unsigned 4))
    else one_slot (cases_slot 0 cs)

abbrev mutual
  -- what has to be put into core values for a value of this shape
  pub flat_puts_of : Shape → SlotPuts
  flat_puts_of (leaf_shape l) = one_slot (leaf_slot 0 l)
  flat_puts_of string_shape = one_slot (text_slot 0)
  flat_puts_of (list_shape e x) = one_slot (list_slot 0 e.size (puts_of x))
  flat_puts_of (fixed_list_shape e x n) = one_slot (each_slot 0 e.width n (flat_puts_of x))
  flat_puts_of (fields_shape ps) = flat_field_puts ps 0
  flat_puts_of (cases_shape b d ps) = cases_slots (flat_payload_puts ps)
  flat_puts_of (handle_shape h) = one_slot (handle_slot 0)

  -- for fields, from this core value on
  pub flat_field_puts : Parts → ℕ → SlotPuts
  flat_field_puts no_parts at = no_slots
  flat_field_puts (part o e x ps) at =
      both_slots (placed_slots at (flat_puts_of x)) (flat_field_puts ps (at + e.width))

  -- for what cases carry
  pub flat_payload_puts : Payloads → CaseSlotPuts
  flat_payload_puts no_payloads = no_cases
  flat_payload_puts (nothing ps) = case no_slots (flat_payload_puts ps)
  flat_payload_puts (carried e x ps) = case (flat_puts_of x) (flat_payload_puts ps)
