-- What has to be looked at in the values of a type, listed once from its layout (CanonicalABI.md,
-- "Loading" and "Flat Lifting", say what is looked at; that it is listed is this project's own
-- choice). A place is counted from where the value begins, in bytes where it stands in memory, and
-- in core values where these pass it.
use Rattle.std.specs.Prelude.{ℕ, suc, ◌+◌, Bool, true, false, ◌&&◌, nat_lt, if◌then◌else◌}
use Rattle.cm_layout.specs.Shapes.{LayoutTy, Shape, Parts, Payloads, leaf_shape, string_shape}
use Rattle.cm_layout.specs.Shapes.{list_shape, fixed_list_shape, fields_shape, cases_shape}
use Rattle.cm_layout.specs.Shapes.{handle_shape, no_parts, part, no_payloads, nothing, carried}
use Rattle.cm_layout.specs.declared.heads.Head.{Head}
use Rattle.cm_layout.specs.declared.layouts.HandleType.{HandleType}
use Rattle.cm_layout.specs.declared.layouts.Leaf.{Leaf}
use Rattle.cm_layout.specs.declared.layouts.Leaf.TheVariants as leaf
use Rattle.cm_abi_programs.specs.declared.limits.TheConstants.{FEW}

mutual
  pub data Check : Type 0 where
    -- at this place there is a char, which has to be a Unicode scalar
    char_check : ℕ → Check
    -- there is a number of so many bytes, which has to be below this one
    below_check : ℕ → ℕ → ℕ → Check
    -- there is a string
    text_check : ℕ → Check
    -- there is a list of elements that take this, and these are the checks of each
    list_check : ℕ → Head → Checks → Check
    -- from there on there are values, so far one behind the other and so many, and these are the
    -- checks of each
    each_check : ℕ → ℕ → ℕ → Checks → Check
    -- there is the number of a case, of so many bytes; what the case carries stands so far behind
    -- it, and these are the checks of what each case carries
    cases_check : ℕ → ℕ → ℕ → CaseChecks → Check
    -- there is a handle
    handle_check : ℕ → HandleType → Check
    -- a value begins there of which these are the checks
    part_check : ℕ → Checks → Check

  -- checks in order
  pub data Checks : Type 0 where
    no_checks : Checks
    check : Check → Checks → Checks

  -- the checks of what each case carries, in order
  pub data CaseChecks : Type 0 where
    no_cases : CaseChecks
    case : Checks → CaseChecks → CaseChecks

-- ---- lists of checks

-- one check
abbrev pub one_check : Check → Checks
one_check c = check c no_checks

-- checks, and others behind them
abbrev pub both_checks : Checks → Checks → Checks
both_checks no_checks ds = ds
both_checks (check c cs) ds = check c (both_checks cs ds)

-- how many checks, and how many cases there are
abbrev pub check_count : Checks → ℕ
check_count no_checks = 0
check_count (check c cs) = suc (check_count cs)

abbrev pub case_count : CaseChecks → ℕ
case_count no_cases = 0
case_count (case cs rest) = suc (case_count rest)

-- there is nothing to look at, in a value or in any case
abbrev pub is_unchecked : Checks → Bool
is_unchecked no_checks = true
is_unchecked (check c cs) = false

abbrev pub are_unchecked : CaseChecks → Bool
are_unchecked no_cases = true
are_unchecked (case cs rest) = is_unchecked cs && are_unchecked rest

-- a check, and checks, of a value that begins so far behind
abbrev pub moved_check : ℕ → Check → Check
moved_check o (char_check at) = char_check (o + at)
moved_check o (below_check at b n) = below_check (o + at) b n
moved_check o (text_check at) = text_check (o + at)
moved_check o (list_check at e cs) = list_check (o + at) e cs
moved_check o (each_check at d n cs) = each_check (o + at) d n cs
moved_check o (cases_check at b d cs) = cases_check (o + at) b d cs
moved_check o (handle_check at h) = handle_check (o + at) h
moved_check o (part_check at cs) = part_check (o + at) cs

abbrev pub moved_checks : ℕ → Checks → Checks
moved_checks o no_checks = no_checks
moved_checks o (check c cs) = check (moved_check o c) (moved_checks o cs)

-- ---- the checks of a type

-- the checks of a field that begins so far behind: where they are few they are written out, else
-- the list is shared
abbrev pub placed_checks : ℕ → Checks → Checks
placed_checks o cs =
    if nat_lt FEW (check_count cs) then one_check (part_check o cs) else moved_checks o cs

-- those of a leaf: only a char can be at fault
abbrev pub leaf_checks : Leaf → Checks
leaf_checks leaf.Char = one_check (char_check 0)
leaf_checks l = no_checks

-- those of so many values in a row
abbrev pub row_checks : ℕ → ℕ → Checks → Checks
row_checks d n cs = if is_unchecked cs then no_checks else one_check (each_check 0 d n cs)

-- those of cases: where nothing is looked at in what they carry, the number alone
abbrev pub cases_checks : ℕ → ℕ → CaseChecks → Checks
cases_checks b d cs =
    if are_unchecked cs then one_check (below_check 0 b (case_count cs))
    else one_check (cases_check 0 b d cs)

abbrev mutual
  -- what has to be looked at in a value of this shape in memory
  pub checks_of : Shape → Checks
  checks_of (leaf_shape l) = leaf_checks l
  checks_of string_shape = one_check (text_check 0)
  checks_of (list_shape e x) = one_check (list_check 0 e (checks_of x))
  checks_of (fixed_list_shape e x n) = row_checks e.size n (checks_of x)
  checks_of (fields_shape ps) = field_checks ps
  checks_of (cases_shape b d ps) = cases_checks b d (payload_checks ps)
  checks_of (handle_shape h) = one_check (handle_check 0 h)

  -- in fields
  pub field_checks : Parts → Checks
  field_checks no_parts = no_checks
  field_checks (part o e x ps) = both_checks (placed_checks o (checks_of x)) (field_checks ps)

  -- in what cases carry
  pub payload_checks : Payloads → CaseChecks
  payload_checks no_payloads = no_cases
  payload_checks (nothing ps) = case no_checks (payload_checks ps)
  payload_checks (carried e x ps) = case (checks_of x) (payload_checks ps)

abbrev mutual
  -- what has to be looked at in a value of this shape that core values pass
  pub flat_checks_of : Shape → Checks
  flat_checks_of (leaf_shape l) = leaf_checks l
  flat_checks_of string_shape = one_check (text_check 0)
  flat_checks_of (list_shape e x) = one_check (list_check 0 e (checks_of x))
  flat_checks_of (fixed_list_shape e x n) = row_checks e.width n (flat_checks_of x)
  flat_checks_of (fields_shape ps) = flat_field_checks ps 0
  flat_checks_of (cases_shape b d ps) = cases_checks 4 1 (flat_payload_checks ps)
  flat_checks_of (handle_shape h) = one_check (handle_check 0 h)

  -- in fields, from this core value on
  pub flat_field_checks : Parts → ℕ → Checks
  flat_field_checks no_parts at = no_checks
  flat_field_checks (part o e x ps) at =
      both_checks (placed_checks at (flat_checks_of x)) (flat_field_checks ps (at + e.width))

  -- in what cases carry
  pub flat_payload_checks : Payloads → CaseChecks
  flat_payload_checks no_payloads = no_cases
  flat_payload_checks (nothing ps) = case no_checks (flat_payload_checks ps)
  flat_payload_checks (carried e x ps) = case (flat_checks_of x) (flat_payload_checks ps)

-- what has to be looked at in what passes in at most so many core values, or else at a pointer
abbrev pub passed_checks_of : ℕ → LayoutTy → Checks
passed_checks_of limit l =
    if nat_lt limit l.head.width then checks_of l.shape else flat_checks_of l.shape
