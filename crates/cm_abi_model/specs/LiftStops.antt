-- What lifting stops at: the first part in reading order that cannot be lifted, and what is wrong
-- with it. The checks are those of CanonicalABI.md, "Loading", "Flat Lifting" and "Lifting and
-- Lowering Values"; which of them comes first, and the limit on content, are this project's own
-- choice. What was met before is known to be fine, and tells how much content and which handles are
-- left.
use Rattle.std.specs.Prelude.{◌≡◌, ℕ, zero, suc, ◌+◌, ◌-◌, ◌*◌, ◌<◌, ◌≤◌, ◌⊎◌, List, [], ◌∷◌, ◌++◌}
use Rattle.std.specs.Prelude.{length, Bool, true, false, Some, None}
use Rattle.cm_types.specs.declared.core_value.CoreValue.{CoreValue}
use Rattle.cm_types.specs.declared.resource.ResourceId.{ResourceId}
use Rattle.cm_types.specs.Types.{Ty, Fields, Cases, char, string, list}
use Rattle.cm_types.specs.Types.{fixed_list, fields, cases, own, borrow, no_fields, field}
use Rattle.cm_types.specs.Types.{no_cases, plain, carrying}
use Rattle.cm_types.specs.Values.{Val, IsScalarValue}
use Rattle.cm_handles.specs.Handles.{Handles, handle_at}
use Rattle.cm_handles.specs.declared.handle.Handle.{Handle}
use Rattle.cm_handles.specs.declared.handle.HandleKind.TheVariants.{Owned}
use Rattle.cm_layout.specs.Alignment.{align_to}
use Rattle.cm_layout.specs.Sizes.{align_of, size_of, case_count, discriminant_size, payload_offset}
use Rattle.cm_abi_model.specs.declared.fault.AbiFault.{AbiFault}
use Rattle.cm_abi_model.specs.declared.fault.AbiFault.TheVariants as fault
use Rattle.cm_abi_model.specs.Numbers.{number_at, wrapped_at}
use Rattle.cm_abi_model.specs.FlatShows.{FlatShows, width_of}
use Rattle.cm_abi_model.specs.Requests.{is_spilled, tuple_of}
use Rattle.cm_abi_model.specs.Shows.{Shows}
use Rattle.cm_abi_model.specs.Taken.{Met, content, MAX_CONTENT, GoesInTurn, after_met, content_of}
use Rattle.cm_abi_model.specs.Taken.{met_at, met_flat}
use Rattle.cm_abi_model.specs.Texts.{IsAligned, ShowsText, text_align, text_size}
use Rattle.cm_abi_model.specs.Views.{View, Way}

-- ---- pointers

-- So many bytes at a pointer are aligned and lie in the memory (CanonicalABI.md, "Loading").
pub record IsInPlace (memory : List ℕ) (align at size : ℕ) : Type 0 where
  pub aligned : IsAligned align at
  pub inside : at + size ≤ length memory

-- A pointer to so many bytes is not aligned, or else passes the end of the memory (CanonicalABI.md,
-- "Loading"; the order is this project's own choice).
abbrev pub PointerStops : List ℕ → ℕ → ℕ → ℕ → AbiFault → Type 0
PointerStops memory align at size fault.Misaligned = IsAligned align at → ⊥
PointerStops memory align at size fault.PointerBounds =
    IsAligned align at × (length memory < at + size)
PointerStops memory align at size f = ⊥

-- So many bytes of content at a pointer stop as the pointer does, or else are more than may still
-- come (CanonicalABI.md, "Loading"; the limit and the order are this project's own choice).
abbrev pub ContentStops : List ℕ → ℕ → ℕ → ℕ → List Met → AbiFault → Type 0
ContentStops memory align at size ms fault.TooLarge =
    IsInPlace memory align at size × (MAX_CONTENT < content_of ms + size)
ContentStops memory align at size ms f = PointerStops memory align at size f

-- So many bytes of content stand at a pointer, and may still come (CanonicalABI.md, "Loading"; the
-- limit is this project's own choice).
pub record HasContent (memory : List ℕ) (align at size : ℕ) (ms : List Met) : Type 0 where
  pub in_place : IsInPlace memory align at size
  pub room : content_of ms + size ≤ MAX_CONTENT

-- The bytes of a string of this tagged length stand at a pointer and spell no text
-- (CanonicalABI.md, "Loading", `load_string`).
pub record HasBadText (w : View) (at n : ℕ) (ms : List Met) : Type 0 where
  pub stands : HasContent w.memory (text_align w.encoding) at (text_size w.encoding n) ms
  pub no_text : (scalars : List ℕ) → ShowsText w.encoding w.memory at n scalars → ⊥

-- A string at a pointer stops as its bytes do, or else as they spell no text (CanonicalABI.md,
-- "Loading", `load_string`; the order is this project's own choice).
abbrev pub TextStops : View → ℕ → ℕ → List Met → AbiFault → Type 0
TextStops w at n ms fault.BadText = HasBadText w at n ms
TextStops w at n ms f =
    ContentStops w.memory (text_align w.encoding) at (text_size w.encoding n) ms f

-- ---- numbers and handles

-- A number that stands for a char is no scalar value (CanonicalABI.md, "Loading",
-- `convert_i32_to_char`).
abbrev pub CharStops : ℕ → AbiFault → Type 0
CharStops c f = (f ≡ fault.BadChar) × (IsScalarValue c → ⊥)

-- This handle stands in the table at an index (CanonicalABI.md, "Loading", `lift_own` and
-- `lift_borrow`).
abbrev pub HandleStands : Handles → ℕ → Handle → Type 0
HandleStands t index h = handle_at t index ≡ Some h

-- The index of a handle to be borrowed has no handle, or else one of another resource
-- (CanonicalABI.md, "Loading", `lift_borrow`; the order is this project's own choice).
abbrev pub BorrowStops : Handles → ResourceId → ℕ → AbiFault → Type 0
BorrowStops t r index fault.NoHandle = handle_at t index ≡ None
BorrowStops t r index fault.WrongResource =
    (h : Handle) × HandleStands t index h × (h.resource ≡ r → ⊥)
BorrowStops t r index f = ⊥

-- The index of a handle to be owned stops as one to be borrowed does, or else its handle is lent,
-- or else is itself a borrow (CanonicalABI.md, "Loading", `lift_own`; the order is this project's
-- own choice).
abbrev pub OwnStops : Handles → ResourceId → ℕ → AbiFault → Type 0
OwnStops t r index fault.StillLent =
    (h : Handle) × HandleStands t index h × (h.resource ≡ r) × (0 < h.lends)
OwnStops t r index fault.NotOwned =
    (h : Handle) × HandleStands t index h × (h.resource ≡ r) × (h.lends ≡ 0)
    × (h.kind ≡ Owned → ⊥)
OwnStops t r index f = BorrowStops t r index f

-- ---- values

-- What was met behind this can be handed over too, as the table and the content are by then
-- (CanonicalABI.md, "Loading"; the limit on content is this project's own choice).
abbrev pub GoesOnWith : View → List Met → List Met → Type 0
GoesOnWith w ms more =
    GoesInTurn (after_met w.table ms) (MAX_CONTENT - content_of ms) more

-- A value is shown at an address, and its handles and texts can be handed over behind those met
-- before (CanonicalABI.md, "Loading").
pub record IsLiftedAt (w : View) (t : Ty) (p : ℕ) (ms : List Met) (v : Val) : Type 0 where
  pub shown : Shows w t p v
  pub goes : GoesOnWith w ms (met_at w t p v)

-- A value is shown in the core values from a place on, and its handles and texts can be handed over
-- behind those met before (CanonicalABI.md, "Flat Lifting").
pub record IsLiftedFlat (w : View) (slots : List CoreValue) (t : Ty) (k : ℕ) (ms : List Met)
    (v : Val) : Type 0 where
  pub shown : FlatShows w slots t k v
  pub goes : GoesOnWith w ms (met_flat w slots t k v)

-- One of so many values in a row stops, and each before it is lifted (CanonicalABI.md, "Loading",
-- `load_list_from_valid_range`, and "Flat Lifting"; the order is this project's own choice).
abbrev pub EachStops : (ℕ → List Met → AbiFault → Type 0) → (ℕ → List Met → Val → Type 0)
    → (ℕ → Val → List Met) → ℕ → ℕ → ℕ → List Met → AbiFault → Type 0
EachStops S L M size zero p ms f = ⊥
EachStops S L M size (suc n) p ms f =
    S p ms f
    ⊎ ((v : Val) × L p ms v × EachStops S L M size n (p + size) (ms ++ M p v) f)

-- A list of so many elements at a pointer stops as its bytes do, or else as the first element that
-- does (CanonicalABI.md, "Loading", `load_list`; the order is this project's own choice).
abbrev pub ListStops : View → (ℕ → List Met → AbiFault → Type 0) → (ℕ → List Met → Val → Type 0)
    → (ℕ → Val → List Met) → ℕ → ℕ → ℕ → ℕ → List Met → AbiFault → Type 0
ListStops w S L M align size at n ms f =
    ContentStops w.memory align at (n * size) ms f
    ⊎ (HasContent w.memory align at (n * size) ms
    × EachStops S L M size n at (ms ++ content (n * size) ∷ []) f)

abbrev mutual
  -- Reading the value of a type at an address stops so, where this was met before
  -- (CanonicalABI.md, "Loading"; the order is this project's own choice).
  pub StopsAt : View → Ty → ℕ → List Met → AbiFault → Type 0
  StopsAt w char p ms f = CharStops (number_at 4 w.memory p) f
  StopsAt w string p ms f =
      TextStops w (number_at 4 w.memory p) (number_at 4 w.memory (p + 4)) ms f
  StopsAt w (list t) p ms f =
      ListStops w (StopsAt w t) (IsLiftedAt w t) (met_at w t) (align_of t) (size_of t)
      (number_at 4 w.memory p) (number_at 4 w.memory (p + 4)) ms f
  StopsAt w (fixed_list t n) p ms f =
      EachStops (StopsAt w t) (IsLiftedAt w t) (met_at w t) (size_of t) n p ms f
  StopsAt w (fields k fs) p ms f = FieldsStop w fs p 0 ms f
  StopsAt w (cases k cs) p ms f =
      CaseStops w cs (number_at (discriminant_size (case_count cs)) w.memory p)
      (p + payload_offset cs) ms f
  StopsAt w (own r) p ms f = OwnStops (after_met w.table ms) r (number_at 4 w.memory p) f
  StopsAt w (borrow r) p ms f = BorrowStops (after_met w.table ms) r (number_at 4 w.memory p) f
  StopsAt w t p ms f = ⊥

  -- One of the fields from an address on stops, and each before it is lifted (CanonicalABI.md,
  -- "Loading", `load_record`; the order is this project's own choice).
  pub FieldsStop : View → Fields → ℕ → ℕ → List Met → AbiFault → Type 0
  FieldsStop w no_fields p end ms f = ⊥
  FieldsStop w (field l t fs) p end ms f =
      StopsAt w t (p + align_to (align_of t) end) ms f
      ⊎ ((v : Val) × IsLiftedAt w t (p + align_to (align_of t) end) ms v
      × FieldsStop w fs p (align_to (align_of t) end + size_of t)
      (ms ++ met_at w t (p + align_to (align_of t) end) v) f)

  -- There is no case of this number, or else what the case carries stops (CanonicalABI.md,
  -- "Loading", `load_variant`; the order is this project's own choice).
  pub CaseStops : View → Cases → ℕ → ℕ → List Met → AbiFault → Type 0
  CaseStops w no_cases i p ms f = f ≡ fault.BadCase
  CaseStops w (plain l cs) zero p ms f = ⊥
  CaseStops w (plain l cs) (suc i) p ms f = CaseStops w cs i p ms f
  CaseStops w (carrying l t cs) zero p ms f = StopsAt w t p ms f
  CaseStops w (carrying l t cs) (suc i) p ms f = CaseStops w cs i p ms f

abbrev mutual
  -- Reading the value of a type in the core values from a place on stops so, where this was met
  -- before (CanonicalABI.md, "Flat Lifting"; the order is this project's own choice).
  pub FlatStopsAt : View → List CoreValue → Ty → ℕ → List Met → AbiFault → Type 0
  FlatStopsAt w s char k ms f = CharStops (wrapped_at 4 s k) f
  FlatStopsAt w s string k ms f = TextStops w (wrapped_at 4 s k) (wrapped_at 4 s (k + 1)) ms f
  FlatStopsAt w s (list t) k ms f =
      ListStops w (StopsAt w t) (IsLiftedAt w t) (met_at w t) (align_of t) (size_of t)
      (wrapped_at 4 s k) (wrapped_at 4 s (k + 1)) ms f
  FlatStopsAt w s (fixed_list t n) k ms f =
      EachStops (FlatStopsAt w s t) (IsLiftedFlat w s t) (met_flat w s t) (width_of t) n k ms f
  FlatStopsAt w s (fields c fs) k ms f = FlatFieldsStop w s fs k ms f
  FlatStopsAt w s (cases c cs) k ms f = FlatCaseStops w s cs (wrapped_at 4 s k) (k + 1) ms f
  FlatStopsAt w s (own r) k ms f = OwnStops (after_met w.table ms) r (wrapped_at 4 s k) f
  FlatStopsAt w s (borrow r) k ms f = BorrowStops (after_met w.table ms) r (wrapped_at 4 s k) f
  FlatStopsAt w s t k ms f = ⊥

  -- One of the fields in the core values from a place on stops, and each before it is lifted
  -- (CanonicalABI.md, "Flat Lifting", `lift_flat_record`; the order is this project's own choice).
  pub FlatFieldsStop : View → List CoreValue → Fields → ℕ → List Met → AbiFault → Type 0
  FlatFieldsStop w s no_fields k ms f = ⊥
  FlatFieldsStop w s (field l t fs) k ms f =
      FlatStopsAt w s t k ms f
      ⊎ ((v : Val) × IsLiftedFlat w s t k ms v
      × FlatFieldsStop w s fs (k + width_of t) (ms ++ met_flat w s t k v) f)

  -- There is no case of this number, or else what the case carries in the core values from a place
  -- on stops (CanonicalABI.md, "Flat Lifting", `lift_flat_variant`; the order is this project's own
  -- choice).
  pub FlatCaseStops : View → List CoreValue → Cases → ℕ → ℕ → List Met → AbiFault → Type 0
  FlatCaseStops w s no_cases i k ms f = f ≡ fault.BadCase
  FlatCaseStops w s (plain l cs) zero k ms f = ⊥
  FlatCaseStops w s (plain l cs) (suc i) k ms f = FlatCaseStops w s cs i k ms f
  FlatCaseStops w s (carrying l t cs) zero k ms f = FlatStopsAt w s t k ms f
  FlatCaseStops w s (carrying l t cs) (suc i) k ms f = FlatCaseStops w s cs i k ms f

-- ---- a call

-- The tuple behind a pointer stops as the pointer does, or else as what stands there
-- (CanonicalABI.md, "Lifting and Lowering Values"; the order is this project's own choice).
abbrev pub SpilledStops : View → Ty → ℕ → AbiFault → Type 0
SpilledStops w t at f =
    PointerStops w.memory (align_of t) at (size_of t) f
    ⊎ (IsInPlace w.memory (align_of t) at (size_of t) × StopsAt w t at [] f)

-- What is passed by a pointer, or else in core values, stops so (CanonicalABI.md, "Lifting and
-- Lowering Values").
abbrev pub LiftStopsBy : Bool → View → Ty → List CoreValue → AbiFault → Type 0
LiftStopsBy true w t slots f = SpilledStops w t (wrapped_at 4 slots 0) f
LiftStopsBy false w t slots f = FlatStopsAt w slots t 0 [] f

-- Lifting what a call passes stops at this fault, the first thing in reading order that is wrong
-- (CanonicalABI.md, "Lifting and Lowering Values"; the order is this project's own choice).
abbrev pub LiftStops : View → Way → Fields → List CoreValue → AbiFault → Type 0
LiftStops w way types slots f = LiftStopsBy (is_spilled way types) w (tuple_of types) slots f
