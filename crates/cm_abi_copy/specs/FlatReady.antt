-- Whether a value can be copied from core values to others (CanonicalABI.md, "Flattening").
use Rattle.std.specs.Prelude.{ℕ, zero, suc, ◌+◌, ◌<◌, ◌≤◌, ⊤, List, length}
use Rattle.cm_types.specs.declared.core_value.CoreValue.{CoreValue}
use Rattle.cm_layout.specs.Shapes.{LayoutTy, Shape, Parts, Payloads, leaf_shape, string_shape}
use Rattle.cm_layout.specs.Shapes.{list_shape, fixed_list_shape, fields_shape, cases_shape}
use Rattle.cm_layout.specs.Shapes.{handle_shape, no_parts, part, no_payloads, nothing, carried}
use Rattle.cm_abi_model.specs.Numbers.{wrapped_at}
use Rattle.cm_abi_model.specs.Parts.{handle_count, part_count}
use Rattle.cm_abi_running.specs.Copying.{Copying, shown_to}
use Rattle.cm_abi_running.specs.Ready.{AreElementsReady, AreReady, IsReady, IsSound, IsTextReady}
use Rattle.cm_abi_store.specs.FlatLowering.{IsPassedIn}
use Rattle.cm_abi_copy.specs.FlatShown.{flat_shown}

abbrev mutual
  -- a value of this shape in the slots from this one on can be copied: what its pointers lead to
  -- lies in the source, and its strings are texts; each of its parts, from the one of this number
  -- on, has a place in a memory of so many bytes, and each of its handles a number
  pub IsFlatReady : ℕ → Copying → List CoreValue → Shape → ℕ → ℕ → ℕ → Type 0
  IsFlatReady n c slots (leaf_shape l) s k h = ⊤
  IsFlatReady n c slots string_shape s k h =
      IsTextReady n c (wrapped_at 4 slots s) (wrapped_at 4 slots (s + 1)) k
  IsFlatReady n c slots (list_shape e sh) s k h =
      AreElementsReady n c (IsReady n c sh) (shown_to c sh) e.size (wrapped_at 4 slots s)
      (wrapped_at 4 slots (s + 1)) k h
  IsFlatReady n c slots (fixed_list_shape e sh count) s k h =
      AreReady (IsFlatReady n c slots sh) (flat_shown c slots sh) e.width count s k h
  IsFlatReady n c slots (fields_shape ps) s k h = AreFlatFieldsReady n c slots ps s k h
  IsFlatReady n c slots (cases_shape d o ps) s k h =
      IsFlatCaseReady n c slots ps (wrapped_at 4 slots s) (s + 1) k h
  IsFlatReady n c slots (handle_shape x) s k h = h < length c.given.numbers

  pub AreFlatFieldsReady : ℕ → Copying → List CoreValue → Parts → ℕ → ℕ → ℕ → Type 0
  AreFlatFieldsReady n c slots no_parts s k h = ⊤
  AreFlatFieldsReady n c slots (part o e sh ps) s k h =
      IsFlatReady n c slots sh s k h
      × AreFlatFieldsReady n c slots ps (s + e.width) (k + part_count (flat_shown c slots sh s))
      (h + handle_count (flat_shown c slots sh s))

  pub IsFlatCaseReady : ℕ → Copying → List CoreValue → Payloads → ℕ → ℕ → ℕ → ℕ → Type 0
  IsFlatCaseReady n c slots no_payloads i s k h = ⊤
  IsFlatCaseReady n c slots (nothing ps) zero s k h = ⊤
  IsFlatCaseReady n c slots (nothing ps) (suc i) s k h = IsFlatCaseReady n c slots ps i s k h
  IsFlatCaseReady n c slots (carried e sh ps) zero s k h = IsFlatReady n c slots sh s k h
  IsFlatCaseReady n c slots (carried e sh ps) (suc i) s k h = IsFlatCaseReady n c slots ps i s k h

-- The core values of a layout lie in so many slots from one on, and so does what it holds; what
-- its lists hold is laid out.
pub record IsInSlots (slot_count s : ℕ) (l : LayoutTy) : Type 0 where
  pub inside : s + l.head.width ≤ slot_count
  pub passed : IsPassedIn l.head.width l.shape
  pub sound : IsSound l

-- fields, one behind the other, and what cases carry lie in so many slots
abbrev pub AreFieldsInSlots : ℕ → ℕ → Parts → Type 0
AreFieldsInSlots n s no_parts = ⊤
AreFieldsInSlots n s (part o e sh ps) =
    IsInSlots n s (record { head = e; shape = sh }) × AreFieldsInSlots n (s + e.width) ps

abbrev pub ArePayloadsInSlots : ℕ → ℕ → Payloads → Type 0
ArePayloadsInSlots n s no_payloads = ⊤
ArePayloadsInSlots n s (nothing ps) = ArePayloadsInSlots n s ps
ArePayloadsInSlots n s (carried e sh ps) =
    IsInSlots n s (record { head = e; shape = sh }) × ArePayloadsInSlots n s ps
