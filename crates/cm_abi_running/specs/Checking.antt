-- What looking at a value by its checks comes to: the first fault, or a record of each part, with
-- the content and the handles that were met (CanonicalABI.md, "Loading" and "Flat Lifting"; what is
-- kept of each part is this project's own choice).
use Rattle.std.specs.Prelude.{ℕ, zero, suc, ◌+◌, ◌*◌, ◌%◌, ◌==◌, not, nat_lt, if◌then◌else◌}
use Rattle.std.specs.Prelude.{List, [], ◌∷◌, ◌++◌, length, Ok, Err}
use Rattle.cm_types.specs.Values.{Val}
use Rattle.cm_types.specs.declared.core_value.CoreValue.{CoreValue}
use Rattle.cm_layout.specs.declared.heads.Head.{Head}
use Rattle.cm_layout.specs.declared.layouts.Leaf.TheVariants as leaf
use Rattle.cm_abi_model.specs.declared.encoding.StringEncoding.{StringEncoding}
use Rattle.cm_abi_model.specs.declared.fault.AbiFault.TheVariants as fault
use Rattle.cm_abi_model.specs.declared.record.PartRecord.{PartRecord}
use Rattle.cm_abi_model.specs.Numbers.{number_at, wrapped_at}
use Rattle.cm_abi_load.specs.Outcomes.{Outcome, State, mapped, ◌>>=◌}
use Rattle.cm_abi_load.specs.Reading.{Source, leaf_value, read_handle, read_text, region}
use Rattle.cm_abi_load.specs.Records.{element_record, text_record}
use Rattle.cm_abi_programs.specs.Checks.{Check, Checks, CaseChecks, no_checks, check, no_cases}
use Rattle.cm_abi_programs.specs.Checks.{case, char_check, below_check, text_check, list_check}
use Rattle.cm_abi_programs.specs.Checks.{each_check, cases_check, handle_check, part_check}

-- what looking comes to: records of the parts that were met
abbrev pub Looked : Type 0
Looked = Outcome (List PartRecord)

-- Where numbers are read.
pub record Numbers : Type 0 where
  -- the number of so many bytes at a place
  pub number : ℕ → ℕ → ℕ
  -- how far behind a pointer its length is
  pub length_behind : ℕ

-- in a memory, by bytes
abbrev pub in_memory : List ℕ → Numbers
in_memory memory = record { number = λ b p. number_at b memory p; length_behind = 4 }

-- in core values, by core values; of each its low 32 bits
abbrev pub in_slots : List CoreValue → Numbers
in_slots slots = record { number = λ b p. wrapped_at 4 slots p; length_behind = 1 }

-- what is looked at next, where there was no fault before; its records stand behind
abbrev pub followed : Looked → (State → Looked) → Looked
followed r next = r >>= λ x. mapped (λ rs. x.0 ++ rs) (next x.1)

-- so many values, so far one behind the other
abbrev pub checked_each : (ℕ → State → Looked) → ℕ → ℕ → ℕ → State → Looked
checked_each C d zero p s = Ok ([], s)
checked_each C d (suc n) p s = followed (C p s) (λ u. checked_each C d n (p + d) u)

-- a value of which no record is kept
abbrev pub unrecorded : Outcome Val → Looked
unrecorded r = mapped (λ v. []) r

-- the string at a pointer, of a tagged length
abbrev pub text_checked : Source → StringEncoding → ℕ → ℕ → State → Looked
text_checked w target at n s =
    mapped (λ v. text_record w.encoding target at n v ∷ [])
    (read_text w.memory w.encoding at n s)

-- so many elements at a pointer, of which each is looked at so
abbrev pub elements_checked : Source → (ℕ → State → Looked) → Head → ℕ → ℕ → State → Looked
elements_checked w C e at n s =
    region w.memory e.align at (n * e.size) s >>= λ r.
    mapped (λ rs. element_record e at n ∷ rs) (checked_each C e.size n at r.1)

abbrev mutual
  -- a value that begins at a place is looked at by a check
  pub checked : Source → StringEncoding → Numbers → Check → ℕ → State → Looked
  checked w target f (char_check at) p s =
      unrecorded (leaf_value leaf.Char (f.number 4 (p + at)) s)
  checked w target f (below_check at b n) p s =
      if nat_lt (f.number b (p + at)) n then Ok ([], s) else Err (fault.BadCase, s)
  checked w target f (text_check at) p s =
      text_checked w target (f.number 4 (p + at)) (f.number 4 (p + at + f.length_behind)) s
  checked w target f (list_check at e cs) p s =
      elements_checked w (all_checked w target (in_memory w.memory) cs) e
      (f.number 4 (p + at)) (f.number 4 (p + at + f.length_behind)) s
  checked w target f (each_check at d n cs) p s =
      checked_each (all_checked w target f cs) d n (p + at) s
  checked w target f (cases_check at b d cs) p s =
      case_checked w target f cs (f.number b (p + at)) (p + at + d) s
  checked w target f (handle_check at h) p s =
      unrecorded (read_handle w.table h (f.number 4 (p + at)) s)
  checked w target f (part_check at cs) p s = all_checked w target f cs (p + at) s

  -- by checks in order
  pub all_checked : Source → StringEncoding → Numbers → Checks → ℕ → State → Looked
  all_checked w target f no_checks p s = Ok ([], s)
  all_checked w target f (check c cs) p s =
      followed (checked w target f c p s) (λ u. all_checked w target f cs p u)

  -- what the case of this number carries is
  pub case_checked : Source → StringEncoding → Numbers → CaseChecks → ℕ → ℕ → State → Looked
  case_checked w target f no_cases i p s = Err (fault.BadCase, s)
  case_checked w target f (case cs rest) zero p s = all_checked w target f cs p s
  case_checked w target f (case cs rest) (suc i) p s = case_checked w target f rest i p s

-- a value at a pointer, of which its own bytes are the first part: it is aligned, else in bounds
abbrev pub spilled_checked : Source → StringEncoding → Head → Checks → ℕ → State → Looked
spilled_checked w target e cs at s =
    if not (at % e.align == 0) then Err (fault.Misaligned, s)
    else (if nat_lt (length w.memory) (at + e.size) then Err (fault.PointerBounds, s)
    else mapped (λ rs. element_record e at 1 ∷ rs)
    (all_checked w target (in_memory w.memory) cs at s))

-- what a call passes: a value in core values, where it takes so many at most, else at a pointer
abbrev pub passed_checked : Source → StringEncoding → ℕ → Head → Checks → List CoreValue → State
    → Looked
passed_checked w target limit e cs slots s =
    if nat_lt limit e.width then spilled_checked w target e cs (wrapped_at 4 slots 0) s
    else all_checked w target (in_slots slots) cs 0 s
