-- What writing a value by its puts comes to: bytes, each with its address, in order
-- (CanonicalABI.md, "Loading" and "Storing").
use Rattle.std.specs.Prelude.{ℕ, zero, suc, ◌+◌, ◌%◌, ◌^◌, ◌==◌, not, if◌then◌else◌}
use Rattle.std.specs.Prelude.{List, [], ◌∷◌, ◌++◌, Option, Some, None, slice_index}
use Rattle.cm_types.specs.Values.{Val}
use Rattle.cm_layout.specs.Shapes.{Shape}
use Rattle.cm_abi_model.specs.Numbers.{number_at}
use Rattle.cm_abi_model.specs.Parts.{handle_count, part_count}
use Rattle.cm_abi_model.specs.Requests.{text_bytes, text_units}
use Rattle.cm_abi_model.specs.Stores.{Given, Placed, bytes_of, number_of, place_of, placed}
use Rattle.cm_abi_model.specs.Stores.{pointer_bytes}
use Rattle.cm_abi_model.specs.Texts.{bytes_from, charset_of, text_size}
use Rattle.cm_abi_load.specs.Decoded.{decoded}
use Rattle.cm_abi_load.specs.Reading.{Source}
use Rattle.cm_abi_store.specs.Storing.{stored_by}
use Rattle.cm_abi_programs.specs.Puts.{Put, Puts, CasePuts, no_puts, put, no_cases, case}
use Rattle.cm_abi_programs.specs.Puts.{run_put, truth_put, flags_put, text_put, list_put}
use Rattle.cm_abi_programs.specs.Puts.{each_put, cases_put, handle_put, part_put}

-- Bytes that are written, and the part and the handle that come next.
pub record Written : Type 0 where
  pub bytes : List Placed
  pub part : ℕ
  pub handle : ℕ

-- what is written next, behind what was
abbrev pub written_then : Written → (ℕ → ℕ → Written) → Written
written_then a next =
    record {
      bytes = a.bytes ++ (next a.part a.handle).bytes;
      part = (next a.part a.handle).part;
      handle = (next a.part a.handle).handle;
    }

-- bytes that have no part and no handle
abbrev pub written_bytes : List Placed → ℕ → ℕ → Written
written_bytes bs k h = record { bytes = bs; part = k; handle = h }

-- so many bytes from one address on, copied to another
abbrev pub copied : List ℕ → ℕ → ℕ → ℕ → List Placed
copied memory zero p q = []
copied memory (suc n) p q = (q, slice_index memory p) ∷ copied memory n (p + 1) (q + 1)

-- the scalars of the string at a pointer, of a tagged length
abbrev pub or_no_scalars : Option (List ℕ) → List ℕ
or_no_scalars None = []
or_no_scalars (Some cs) = cs

abbrev pub scalars_of_text : Source → ℕ → ℕ → List ℕ
scalars_of_text w at n =
    or_no_scalars (decoded (charset_of w.encoding n)
    (bytes_from w.memory at (text_size w.encoding n)))

-- a string of these scalars: its pointer, and its bytes at the place of its part
abbrev pub text_written : Given → List ℕ → ℕ → ℕ → ℕ → Written
text_written g cs q k h =
    record {
      bytes = pointer_bytes q (place_of g k) (text_units g.charset cs)
          ++ placed (place_of g k) (text_bytes g.charset cs);
      part = k + 1;
      handle = h;
    }

-- so many values, so far one behind the other
abbrev pub written_each : (ℕ → ℕ → ℕ → ℕ → Written) → ℕ → ℕ → ℕ → ℕ → ℕ → ℕ → Written
written_each W d zero p q k h = written_bytes [] k h
written_each W d (suc n) p q k h =
    written_then (W p q k h) (written_each W d n (p + d) (q + d))

-- a list of so many elements at a pointer: its pointer, and they at the place of its part
abbrev pub list_written : Given → (ℕ → ℕ → ℕ → ℕ → Written) → ℕ → ℕ → ℕ → ℕ → ℕ → ℕ → Written
list_written g W d at n q k h =
    written_then
    (record { bytes = pointer_bytes q (place_of g k) n; part = k + 1; handle = h })
    (written_each W d n at (place_of g k))

abbrev mutual
  -- a value that is read from one address on is written by a put from another on, from the part and
  -- the handle of these numbers on
  pub written : Source → Given → Put → ℕ → ℕ → ℕ → ℕ → Written
  written w g (run_put at n) p q k h =
      written_bytes (copied w.memory n (p + at) (q + at)) k h
  written w g (truth_put at) p q k h =
      written_bytes
      ((q + at, (if not (number_at 1 w.memory (p + at) == 0) then 1 else 0)) ∷ []) k h
  written w g (flags_put at b n) p q k h =
      written_bytes
      (placed (q + at) (bytes_of b (number_at b w.memory (p + at) % 2 ^ n))) k h
  written w g (text_put at) p q k h =
      text_written g
      (scalars_of_text w (number_at 4 w.memory (p + at)) (number_at 4 w.memory (p + at + 4)))
      (q + at) k h
  written w g (list_put at d cs) p q k h =
      list_written g (all_written w g cs) d (number_at 4 w.memory (p + at))
      (number_at 4 w.memory (p + at + 4)) (q + at) k h
  written w g (each_put at d n cs) p q k h =
      written_each (all_written w g cs) d n (p + at) (q + at) k h
  written w g (cases_put at b d cs) p q k h =
      written_then
      (written_bytes (placed (q + at) (bytes_of b (number_at b w.memory (p + at)))) k h)
      (case_written w g cs (number_at b w.memory (p + at)) (p + at + d) (q + at + d))
  written w g (handle_put at) p q k h =
      record {
        bytes = placed (q + at) (bytes_of 4 (number_of g h));
        part = k;
        handle = h + 1;
      }
  written w g (part_put at cs) p q k h = all_written w g cs (p + at) (q + at) k h

  -- by puts in order
  pub all_written : Source → Given → Puts → ℕ → ℕ → ℕ → ℕ → Written
  all_written w g no_puts p q k h = written_bytes [] k h
  all_written w g (put c cs) p q k h =
      written_then (written w g c p q k h) (all_written w g cs p q)

  -- what the case of this number carries is
  pub case_written : Source → Given → CasePuts → ℕ → ℕ → ℕ → ℕ → ℕ → Written
  case_written w g no_cases i p q k h = written_bytes [] k h
  case_written w g (case cs rest) zero p q k h = all_written w g cs p q k h
  case_written w g (case cs rest) (suc i) p q k h = case_written w g rest i p q k h

-- a value is stored by its layout from an address on, from the part and the handle of these numbers
-- on
abbrev pub stored_as : Given → Shape → Val → ℕ → ℕ → ℕ → Written
stored_as g x v q k h =
    record {
      bytes = stored_by g x v q k h;
      part = k + part_count v;
      handle = h + handle_count v;
    }
