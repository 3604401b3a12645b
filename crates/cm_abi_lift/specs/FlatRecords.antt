-- What is kept of the parts of a value that core values pass (CanonicalABI.md, "Flattening" and
-- "Lifting"; what is kept of each is this project's own choice).
use Rattle.std.specs.Prelude.{ℕ, zero, suc, nat_lt, if◌then◌else◌, List, [], ◌∷◌, ◌++◌, drop}
use Rattle.std.specs.Prelude.{Option, Some, None}
use Rattle.cm_types.specs.declared.core_value.CoreValue.{CoreValue}
use Rattle.cm_types.specs.Values.{Val, Vals, no_vals, val}
use Rattle.cm_layout.specs.Shapes.{Shape, Parts, Payloads, LayoutTy, leaf_shape}
use Rattle.cm_layout.specs.Shapes.{string_shape, list_shape, fixed_list_shape, fields_shape}
use Rattle.cm_layout.specs.Shapes.{cases_shape, handle_shape}
use Rattle.cm_layout.specs.Shapes.{no_parts, part, no_payloads, nothing, carried}
use Rattle.cm_abi_model.specs.declared.encoding.StringEncoding.{StringEncoding}
use Rattle.cm_abi_model.specs.Numbers.{wrapped_at}
use Rattle.cm_abi_load.specs.Reading.{Source}
use Rattle.cm_abi_model.specs.declared.record.PartRecord.{PartRecord}
use Rattle.cm_abi_load.specs.Records.{case_number, element_record, held, payload, records_at}
use Rattle.cm_abi_load.specs.Records.{records_of_list, text_record}

-- the records of values in so many core values each, one behind the other
abbrev pub flat_records_each : (List CoreValue → Val → List PartRecord) → ℕ → List CoreValue → Vals
    → List PartRecord
flat_records_each R width slots no_vals = []
flat_records_each R width slots (val v vs) =
    R slots v ++ flat_records_each R width (drop width slots) vs

abbrev mutual
  -- the records of the parts of a value of this shape in the first of these core values, in reading
  -- order
  pub flat_records : Source → StringEncoding → Shape → List CoreValue → Val → List PartRecord
  flat_records w target (leaf_shape k) slots v = []
  flat_records w target string_shape slots v =
      text_record w.encoding target (wrapped_at 4 slots 0) (wrapped_at 4 slots 1) v ∷ []
  flat_records w target (list_shape e sh) slots v =
      records_of_list (records_at w target sh) e (wrapped_at 4 slots 0) (wrapped_at 4 slots 1) v
  flat_records w target (fixed_list_shape e sh n) slots v =
      flat_records_each (flat_records w target sh) e.width slots (held v)
  flat_records w target (fields_shape ps) slots v =
      flat_records_of_fields w target ps slots (held v)
  flat_records w target (cases_shape d o ps) slots v =
      flat_records_of_case w target ps (case_number v) (drop 1 slots) (payload v)
  flat_records w target (handle_shape h) slots v = []

  -- those of fields, each behind the core values of those before it
  pub flat_records_of_fields : Source → StringEncoding → Parts → List CoreValue → Vals
      → List PartRecord
  flat_records_of_fields w target no_parts slots vs = []
  flat_records_of_fields w target (part o e sh ps) slots no_vals = []
  flat_records_of_fields w target (part o e sh ps) slots (val v vs) =
      flat_records w target sh slots v
      ++ flat_records_of_fields w target ps (drop e.width slots) vs

  -- those of what the case of this number carries, if it carries anything
  pub flat_records_of_case : Source → StringEncoding → Payloads → ℕ → List CoreValue → Option Val
      → List PartRecord
  flat_records_of_case w target no_payloads i slots o = []
  flat_records_of_case w target (nothing ps) zero slots o = []
  flat_records_of_case w target (nothing ps) (suc i) slots o =
      flat_records_of_case w target ps i slots o
  flat_records_of_case w target (carried e sh ps) zero slots None = []
  flat_records_of_case w target (carried e sh ps) zero slots (Some v) =
      flat_records w target sh slots v
  flat_records_of_case w target (carried e sh ps) (suc i) slots o =
      flat_records_of_case w target ps i slots o

-- those of a case with what it carries
abbrev pub flat_records_of_cases : Source → StringEncoding → Payloads → List CoreValue → Val
    → List PartRecord
flat_records_of_cases w target ps slots v =
    flat_records_of_case w target ps (case_number v) slots (payload v)

-- those of what one case carries, by its layout
abbrev pub flat_records_of_payload : Source → StringEncoding → Option LayoutTy → List CoreValue
    → Option Val → List PartRecord
flat_records_of_payload w target (Some l) slots (Some v) = flat_records w target l.shape slots v
flat_records_of_payload w target o slots v = []

-- those of a value at a pointer, of which its own bytes are the first part
abbrev pub spilled_records : Source → StringEncoding → LayoutTy → ℕ → Val → List PartRecord
spilled_records w target l at v = element_record l.head at 1 ∷ records_at w target l.shape at v

-- those of what a call passes: a value in core values, where it takes so many at most, else at a
-- pointer
abbrev pub passed_records : Source → StringEncoding → ℕ → LayoutTy → List CoreValue → Val
    → List PartRecord
passed_records w target limit l slots v =
    if nat_lt limit l.head.width then spilled_records w target l (wrapped_at 4 slots 0) v
    else flat_records w target l.shape slots v
