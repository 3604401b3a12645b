-- Reading a value from core values, part after part, up to the first fault (CanonicalABI.md,
-- "Flattening" and "Lifting and Lowering Values"). Core values that are not there are 0.
use Rattle.std.specs.Prelude.{ℕ, zero, suc, ◌+◌, ◌%◌, ◌<◌, ◌==◌, not, nat_lt, if◌then◌else◌, List}
use Rattle.std.specs.Prelude.{drop, length, Option, Some, None, Ok, Err, ⊤}
use Rattle.cm_types.specs.declared.core_value.CoreValue.{CoreValue}
use Rattle.cm_types.specs.Values.{Val, Vals, no_vals, val, elements, parts, bare, bearing}
use Rattle.cm_layout.specs.Laid.{Laid}
use Rattle.cm_layout.specs.Shapes.{Shape, Parts, Payloads, leaf_shape, string_shape, list_shape}
use Rattle.cm_layout.specs.Shapes.{fixed_list_shape, fields_shape, cases_shape, handle_shape}
use Rattle.cm_layout.specs.Shapes.{LayoutTy, no_parts, part, no_payloads, nothing, carried}
use Rattle.cm_abi_model.specs.declared.fault.AbiFault.TheVariants as fault
use Rattle.cm_abi_model.specs.Numbers.{wrapped_at}
use Rattle.cm_abi_load.specs.Outcomes.{Outcome, State, mapped, ◌>>=◌}
use Rattle.cm_abi_load.specs.Reading.{Source, leaf_value, read_at, read_elements, read_handle}
use Rattle.cm_abi_load.specs.Reading.{read_text}
use Rattle.cm_abi_load.specs.Sized.{IsSized, IsSizedLeaf, core_size}

-- so many values, each in so many core values, one behind the other
abbrev pub read_flat_each : (List CoreValue → State → Outcome Val) → ℕ → ℕ → List CoreValue → State
    → Outcome Vals
read_flat_each R width zero slots s = Ok (no_vals, s)
read_flat_each R width (suc n) slots s =
    R slots s >>= λ r. mapped (λ vs. val r.0 vs) (read_flat_each R width n (drop width slots) r.1)

abbrev mutual
  -- a value of this shape in the first of these core values
  pub read_flat : Source → Shape → List CoreValue → State → Outcome Val
  read_flat w (leaf_shape k) slots s = leaf_value k (wrapped_at (core_size k) slots 0) s
  read_flat w string_shape slots s =
      read_text w.memory w.encoding (wrapped_at 4 slots 0) (wrapped_at 4 slots 1) s
  read_flat w (list_shape e sh) slots s =
      mapped elements (read_elements (read_at w sh) w.memory e
      (wrapped_at 4 slots 0) (wrapped_at 4 slots 1) s)
  read_flat w (fixed_list_shape e sh n) slots s =
      mapped parts (read_flat_each (read_flat w sh) e.width n slots s)
  read_flat w (fields_shape ps) slots s = mapped parts (read_flat_parts w ps slots s)
  read_flat w (cases_shape d o ps) slots s =
      read_flat_case w ps (wrapped_at 4 slots 0) (wrapped_at 4 slots 0) (drop 1 slots) s
  read_flat w (handle_shape h) slots s = read_handle w.table h (wrapped_at 4 slots 0) s

  -- fields, each behind the core values of those before it
  pub read_flat_parts : Source → Parts → List CoreValue → State → Outcome Vals
  read_flat_parts w no_parts slots s = Ok (no_vals, s)
  read_flat_parts w (part o e sh ps) slots s =
      read_flat w sh slots s >>= λ r.
      mapped (λ vs. val r.0 vs) (read_flat_parts w ps (drop e.width slots) r.1)

  -- case i, of which so many cases before it are left out, with its payload in the first of these
  -- core values; those that it does not use may be anything
  pub read_flat_case : Source → Payloads → ℕ → ℕ → List CoreValue → State → Outcome Val
  read_flat_case w no_payloads i n slots s = Err (fault.BadCase, s)
  read_flat_case w (nothing ps) i zero slots s = Ok (bare i, s)
  read_flat_case w (nothing ps) i (suc n) slots s = read_flat_case w ps i n slots s
  read_flat_case w (carried e sh ps) i zero slots s =
      mapped (λ v. bearing i v) (read_flat w sh slots s)
  read_flat_case w (carried e sh ps) i (suc n) slots s = read_flat_case w ps i n slots s

-- one case with what it carries
abbrev pub read_flat_payload : Source → Option LayoutTy → ℕ → List CoreValue → State → Outcome Val
read_flat_payload w None i slots s = Ok (bare i, s)
read_flat_payload w (Some l) i slots s = mapped (λ v. bearing i v) (read_flat w l.shape slots s)

-- a value at a pointer: it is aligned, else in bounds
unfoldable pub read_spilled : Source → LayoutTy → ℕ → State → Outcome Val
read_spilled w l at s =
    if not (at % l.head.align == 0) then Err (fault.Misaligned, s)
    else (if nat_lt (length w.memory) (at + l.head.size) then Err (fault.PointerBounds, s)
    else read_at w l.shape at s)

-- what a call passes: a value in core values, where it takes so many at most, else at a pointer
abbrev pub read_passed : Source → ℕ → LayoutTy → List CoreValue → State → Outcome Val
read_passed w limit l slots s =
    if nat_lt limit l.head.width then read_spilled w l (wrapped_at 4 slots 0) s
    else read_flat w l.shape slots s

-- ---- what a reader asks of a layout

abbrev mutual
  -- each number in a shape has a size that numbers have; and what the elements of a list hold lies
  -- within them
  pub IsFlatReadable : Shape → Type 0
  IsFlatReadable (leaf_shape k) = IsSizedLeaf k
  IsFlatReadable string_shape = ⊤
  IsFlatReadable (list_shape e sh) = Laid e.size sh × (0 < e.align) × IsSized sh
  IsFlatReadable (fixed_list_shape e sh n) = IsFlatReadable sh
  IsFlatReadable (fields_shape ps) = ArePartsFlatReadable ps
  IsFlatReadable (cases_shape d o ps) = ArePayloadsFlatReadable ps
  IsFlatReadable (handle_shape h) = ⊤

  pub ArePartsFlatReadable : Parts → Type 0
  ArePartsFlatReadable no_parts = ⊤
  ArePartsFlatReadable (part o e sh ps) = IsFlatReadable sh × ArePartsFlatReadable ps

  pub ArePayloadsFlatReadable : Payloads → Type 0
  ArePayloadsFlatReadable no_payloads = ⊤
  ArePayloadsFlatReadable (nothing ps) = ArePayloadsFlatReadable ps
  ArePayloadsFlatReadable (carried e sh ps) = IsFlatReadable sh × ArePayloadsFlatReadable ps

-- a layout holds nothing but what can be read from core values
abbrev pub IsFlatReadableLayout : LayoutTy → Type 0
IsFlatReadableLayout l = IsFlatReadable l.shape
