-- Reading a value, part after part, up to the first fault (CanonicalABI.md, "Loading").
use Rattle.std.specs.Prelude.{ℕ, zero, suc, ◌+◌, ◌*◌, List, Option, Some, None, Ok, Err}
use Rattle.cm_types.specs.Values.{Val, Vals, no_vals, val, elements, parts, bare, bearing}
use Rattle.cm_handles.specs.Handles.{Handles}
use Rattle.cm_layout.specs.declared.heads.Head.{Head}
use Rattle.cm_layout.specs.Laid.{leaf_size}
use Rattle.cm_layout.specs.Shapes.{Shape, Parts, Payloads, leaf_shape, string_shape, list_shape}
use Rattle.cm_layout.specs.Shapes.{fixed_list_shape, fields_shape, cases_shape, handle_shape}
use Rattle.cm_layout.specs.Shapes.{LayoutTy, no_parts, part, no_payloads, nothing, carried}
use Rattle.cm_abi_model.specs.declared.encoding.StringEncoding.{StringEncoding}
use Rattle.cm_abi_model.specs.declared.fault.AbiFault.TheVariants as fault
use Rattle.cm_abi_model.specs.Numbers.{number_at}
use Rattle.cm_abi_model.specs.Views.{View}
use Rattle.cm_abi_load.specs.declared.giver.Giver.{Giver}
use Rattle.cm_abi_load.specs.Outcomes.{Outcome, State, mapped, ◌>>=◌}
pub use Rattle.cm_abi_load.specs.Leaves.{after_meeting, handle_value, leaf_value, resource_of}
pub use Rattle.cm_abi_load.specs.Leaves.{value_of_handle}
unfoldable pub use Rattle.cm_abi_load.specs.Leaves.{read_handle, region}
pub use Rattle.cm_abi_load.specs.Texts.{after_text, text_value}
unfoldable pub use Rattle.cm_abi_load.specs.Texts.{read_text}

-- what is read from: a memory, a handle table, and how strings are encoded
pub record Source : Type 0 where
  pub memory : List ℕ
  pub table : Handles
  pub encoding : StringEncoding

-- what the code reads from
abbrev pub source_of : Giver → Source
source_of g =
    record { memory = g.memory.now; table = g.table.now.handles; encoding = g.encoding }

-- what is read from in a view
abbrev pub seen_by : View → Source
seen_by w = record { memory = w.memory; table = w.table; encoding = w.encoding }

-- so many values, one behind the other
abbrev pub read_each : (ℕ → State → Outcome Val) → ℕ → ℕ → ℕ → State → Outcome Vals
read_each R size zero p s = Ok (no_vals, s)
read_each R size (suc n) p s =
    R p s >>= λ r. mapped (λ vs. val r.0 vs) (read_each R size n (p + size) r.1)

-- the elements of a list at a pointer
unfoldable pub read_elements : (ℕ → State → Outcome Val) → List ℕ → Head → ℕ → ℕ → State
    → Outcome Vals
read_elements R memory e at n s =
    region memory e.align at (n * e.size) s >>= λ r. read_each R e.size n at r.1

abbrev mutual
  -- a value of this shape at an address
  pub read_at : Source → Shape → ℕ → State → Outcome Val
  read_at w (leaf_shape k) p s = leaf_value k (number_at (leaf_size k) w.memory p) s
  read_at w string_shape p s =
      read_text w.memory w.encoding (number_at 4 w.memory p) (number_at 4 w.memory (p + 4)) s
  read_at w (list_shape e sh) p s =
      mapped elements (read_elements (read_at w sh) w.memory e
      (number_at 4 w.memory p) (number_at 4 w.memory (p + 4)) s)
  read_at w (fixed_list_shape e sh n) p s =
      mapped parts (read_each (read_at w sh) e.size n p s)
  read_at w (fields_shape ps) p s = mapped parts (read_parts w ps p s)
  read_at w (cases_shape d o ps) p s =
      read_case w ps (number_at d w.memory p) (number_at d w.memory p) (p + o) s
  read_at w (handle_shape h) p s = read_handle w.table h (number_at 4 w.memory p) s

  -- fields, each at its offset from an address
  pub read_parts : Source → Parts → ℕ → State → Outcome Vals
  read_parts w no_parts p s = Ok (no_vals, s)
  read_parts w (part o e sh ps) p s =
      read_at w sh (p + o) s >>= λ r. mapped (λ vs. val r.0 vs) (read_parts w ps p r.1)

  -- case i, of which so many cases before it are left out, with its payload at an address
  pub read_case : Source → Payloads → ℕ → ℕ → ℕ → State → Outcome Val
  read_case w no_payloads i n p s = Err (fault.BadCase, s)
  read_case w (nothing ps) i zero p s = Ok (bare i, s)
  read_case w (nothing ps) i (suc n) p s = read_case w ps i n p s
  read_case w (carried e sh ps) i zero p s =
      mapped (λ v. bearing i v) (read_at w sh p s)
  read_case w (carried e sh ps) i (suc n) p s = read_case w ps i n p s

-- one case with what it carries
abbrev pub read_payload : Source → Option LayoutTy → ℕ → ℕ → State → Outcome Val
read_payload w None i p s = Ok (bare i, s)
read_payload w (Some l) i p s = mapped (λ v. bearing i v) (read_at w l.shape p s)
