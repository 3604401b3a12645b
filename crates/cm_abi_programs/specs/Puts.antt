-- What has to be written of the values of a type, listed once from its layout (CanonicalABI.md,
-- "Loading" and "Storing", say what is written; that it is listed is this project's own choice). A
-- place is counted in bytes from where the value begins, which is alike where it is read and where
-- it is written.
use Rattle.std.specs.Prelude.{ℕ, ◌+◌, ◌*◌, Bool, true, false, ◌&&◌, ◌==◌, nat_lt, suc}
use Rattle.std.specs.Prelude.{if◌then◌else◌}
use Rattle.cm_layout.specs.Shapes.{Shape, Parts, Payloads, leaf_shape, string_shape}
use Rattle.cm_layout.specs.Shapes.{list_shape, fixed_list_shape, fields_shape, cases_shape}
use Rattle.cm_layout.specs.Shapes.{handle_shape, no_parts, part, no_payloads, nothing, carried}
use Rattle.cm_layout.specs.declared.layouts.Leaf.{Leaf}
use Rattle.cm_layout.specs.declared.layouts.Leaf.TheVariants as leaf
use Rattle.cm_abi_programs.specs.declared.limits.TheConstants.{FEW}

mutual
  pub data Put : Type 0 where
    -- from this place on so many bytes are written as they are
    run_put : ℕ → ℕ → Put
    -- there is a bool, which is written as 0 or 1
    truth_put : ℕ → Put
    -- there is a set of flags, of so many bytes and labels; no bit beside these is written
    flags_put : ℕ → ℕ → ℕ → Put
    -- there is a string
    text_put : ℕ → Put
    -- there is a list of elements that take so many bytes, and these are the puts of each
    list_put : ℕ → ℕ → Puts → Put
    -- from there on there are values, so far one behind the other and so many, and these are the
    -- puts of each
    each_put : ℕ → ℕ → ℕ → Puts → Put
    -- there is the number of a case, of so many bytes; what the case carries stands so far behind
    -- it, and these are the puts of what each case carries
    cases_put : ℕ → ℕ → ℕ → CasePuts → Put
    -- there is a handle
    handle_put : ℕ → Put
    -- a value begins there of which these are the puts
    part_put : ℕ → Puts → Put

  -- puts in order
  pub data Puts : Type 0 where
    no_puts : Puts
    put : Put → Puts → Puts

  -- the puts of what each case carries, in order
  pub data CasePuts : Type 0 where
    no_cases : CasePuts
    case : Puts → CasePuts → CasePuts

-- ---- lists of puts

-- one put, and two
abbrev pub one_put : Put → Puts
one_put c = put c no_puts

abbrev pub two_puts : Put → Put → Puts
two_puts c d = put c (one_put d)

-- a put behind a run: a run that begins where this one ends makes it longer
abbrev pub run_then : ℕ → ℕ → Put → Puts
run_then at n (run_put to m) =
    if at + n == to then one_put (run_put at (n + m)) else two_puts (run_put at n) (run_put to m)
run_then at n d = two_puts (run_put at n) d

-- a put behind another
abbrev pub put_then : Put → Put → Puts
put_then (run_put at n) d = run_then at n d
put_then c d = two_puts c d

-- puts with one more behind them
abbrev pub with_put : Puts → Put → Puts
with_put no_puts d = one_put d
with_put (put c no_puts) d = put_then c d
with_put (put c (put e cs)) d = put c (with_put (put e cs) d)

-- puts with others behind them, of a value that begins so far behind
abbrev pub moved_put : ℕ → Put → Put
moved_put o (run_put at n) = run_put (o + at) n
moved_put o (truth_put at) = truth_put (o + at)
moved_put o (flags_put at b n) = flags_put (o + at) b n
moved_put o (text_put at) = text_put (o + at)
moved_put o (list_put at d cs) = list_put (o + at) d cs
moved_put o (each_put at d n cs) = each_put (o + at) d n cs
moved_put o (cases_put at b d cs) = cases_put (o + at) b d cs
moved_put o (handle_put at) = handle_put (o + at)
moved_put o (part_put at cs) = part_put (o + at) cs

abbrev pub with_moved : ℕ → Puts → Puts → Puts
with_moved o cs no_puts = cs
with_moved o cs (put d ds) = with_moved o (with_put cs (moved_put o d)) ds

-- how many puts there are
abbrev pub put_count : Puts → ℕ
put_count no_puts = 0
put_count (put c cs) = suc (put_count cs)

-- nothing is written, of a value or of what any case carries
abbrev pub is_unwritten : Puts → Bool
is_unwritten no_puts = true
is_unwritten (put c cs) = false

abbrev pub are_unwritten : CasePuts → Bool
are_unwritten no_cases = true
are_unwritten (case cs rest) = is_unwritten cs && are_unwritten rest

-- so many bytes are written as they are, and nothing else
abbrev pub is_bulk_put : ℕ → Put → Bool
is_bulk_put d (run_put at n) = at == 0 && n == d
is_bulk_put d c = false

abbrev pub is_bulk_of : ℕ → Puts → Bool
is_bulk_of d (put c no_puts) = is_bulk_put d c
is_bulk_of d cs = false

-- ---- the puts of a type

-- puts with those of a field behind them that begins so far behind: where these are few they are
-- written out, else their list is shared
abbrev pub with_placed : ℕ → Puts → Puts → Puts
with_placed o cs ds =
    if nat_lt FEW (put_count ds) then with_put cs (part_put o ds) else with_moved o cs ds

-- those of a leaf; flags that have a label for each bit are written as they are
abbrev pub leaf_puts : Leaf → Puts
leaf_puts leaf.Bool = one_put (truth_put 0)
leaf_puts (leaf.Signed w) = one_put (run_put 0 w)
leaf_puts (leaf.Unsigned w) = one_put (run_put 0 w)
leaf_puts leaf.Char = one_put (run_put 0 4)
leaf_puts (leaf.Flags labels w) =
    if labels == 8 * w then one_put (run_put 0 w) else one_put (flags_put 0 w labels)

-- those of so many values in a row
abbrev pub row_puts : ℕ → ℕ → Puts → Puts
row_puts d n cs =
    if is_bulk_of d cs then one_put (run_put 0 (n * d)) else one_put (each_put 0 d n cs)

-- those of cases: where nothing is written of what they carry, the number as it is
abbrev pub cases_puts : ℕ → ℕ → CasePuts → Puts
cases_puts b d cs =
    if are_unwritten cs then one_put (run_put 0 b) else one_put (cases_put 0 b d cs)

abbrev mutual
  -- what has to be written of a value of this shape
  pub puts_of : Shape → Puts
  puts_of (leaf_shape l) = leaf_puts l
  puts_of string_shape = one_put (text_put 0)
  puts_of (list_shape e x) = one_put (list_put 0 e.size (puts_of x))
  puts_of (fixed_list_shape e x n) = row_puts e.size n (puts_of x)
  puts_of (fields_shape ps) = field_puts ps no_puts
  puts_of (cases_shape b d ps) = cases_puts b d (payload_puts ps)
  puts_of (handle_shape h) = one_put (handle_put 0)

  -- puts with those of fields behind them
  pub field_puts : Parts → Puts → Puts
  field_puts no_parts cs = cs
  field_puts (part o e x ps) cs = field_puts ps (with_placed o cs (puts_of x))

  -- those of what cases carry
  pub payload_puts : Payloads → CasePuts
  payload_puts no_payloads = no_cases
  payload_puts (nothing ps) = case no_puts (payload_puts ps)
  payload_puts (carried e x ps) = case (puts_of x) (payload_puts ps)
