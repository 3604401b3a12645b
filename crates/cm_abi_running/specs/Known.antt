-- What is known of a value that is to be copied (CanonicalABI.md, "Storing" of strings).
use Rattle.std.specs.Prelude.{◌≡◌, ℕ, ◌+◌, ◌<◌, ⊤, List, length, slice_index, Ok}
use Rattle.std.specs.Prelude.{if◌then◌else◌}
use Rattle.cm_types.specs.Types.{Fields}
use Rattle.cm_types.specs.Values.{Val, Vals, no_vals, val, truth, signed_number, number, scalar}
use Rattle.cm_types.specs.Values.{text, elements, parts, bare, bearing, flag_set, handle}
use Rattle.cm_handles.specs.Handles.{Handles}
use Rattle.cm_layout.specs.Shapes.{Shape}
use Rattle.cm_abi_model.specs.Parts.{part_count}
use Rattle.cm_abi_model.specs.Requests.{is_spilled, text_bytes}
use Rattle.cm_abi_model.specs.Texts.{Charset}
use Rattle.cm_abi_model.specs.Views.{Way}
use Rattle.cm_abi_load.specs.Outcomes.{State}
use Rattle.cm_abi_load.specs.Reading.{Source, read_at}
use Rattle.cm_abi_store.specs.Fitting.{Fits}
use Rattle.cm_abi_running.specs.Copying.{Copying}

abbrev mutual
  -- the size that is known of each part that is a string, from the part of this number on, is that
  -- of its bytes where it is stored
  pub HasSizes : List ℕ → Charset → Val → ℕ → Type 0
  HasSizes sizes s (text cs) k =
      (k < length sizes) × (slice_index sizes k ≡ length (text_bytes s cs))
  HasSizes sizes s (elements vs) k = HaveSizes sizes s vs (k + 1)
  HasSizes sizes s (parts vs) k = HaveSizes sizes s vs k
  HasSizes sizes s (bearing i v) k = HasSizes sizes s v k
  HasSizes sizes s (truth b) k = ⊤
  HasSizes sizes s (signed_number z) k = ⊤
  HasSizes sizes s (number n) k = ⊤
  HasSizes sizes s (scalar c) k = ⊤
  HasSizes sizes s (bare i) k = ⊤
  HasSizes sizes s (flag_set n) k = ⊤
  HasSizes sizes s (handle h) k = ⊤

  pub HaveSizes : List ℕ → Charset → Vals → ℕ → Type 0
  HaveSizes sizes s no_vals k = ⊤
  HaveSizes sizes s (val v vs) k =
      HasSizes sizes s v k × HaveSizes sizes s vs (k + part_count v)

-- the memory that values are copied from, seen with a handle table
abbrev pub source_with : Copying → Handles → Source
source_with c table = record { memory = c.memory; table = table; encoding = c.encoding }

-- A value of this shape is read at an address of the source, whichever handles its table has there;
-- in a memory of so many bytes its parts, from the one of this number on, have places, and its
-- handles numbers; and the sizes of its strings are known.
pub record CanBeCopied (n : ℕ) (c : Copying) (sh : Shape) (p : ℕ) (v : Val) (k h : ℕ)
    : Type 0 where
  pub table : Handles
  pub before : State
  pub after : State
  pub read : read_at (source_with c table) sh p before ≡ Ok (v, after)
  pub fits : Fits n c.given sh v k h
  pub sizes : HasSizes c.sizes c.given.charset v k

-- the number of the first part of the values that a call passes: where they are spilled, their
-- tuple is the part before it
abbrev pub first_part : Way → Fields → ℕ
first_part way types = if is_spilled way types then 1 else 0
