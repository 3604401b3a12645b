-- Running the checks of a type over core values is reading a value from them.
use Rattle.std.proofs.Common.{◌≡◌, ℕ, zero, suc, ◌+◌, ◌%◌, ◌^◌, ◌*◌, ◌==◌, not, List, [], ◌∷◌, drop, length, refl, sym, ap, ◌∙◌, arith}
use Rattle.std.specs.Prelude.{Bool, true, false, Ok, Err, nat_lt, if◌then◌else◌, slice_index_or}
use Rattle.cm_types.specs.declared.core_value.CoreValue.{CoreValue}
use Rattle.cm_types.specs.declared.core_value.CoreValue.TheVariants as core_value
use Rattle.cm_types.specs.Values.{Val, val, parts, bearing}
use Rattle.cm_layout.specs.Shapes.{LayoutTy, Shape, Parts, Payloads, leaf_shape, string_shape, list_shape, fixed_list_shape, fields_shape, cases_shape, handle_shape, no_parts, part, no_payloads, nothing, carried}
use Rattle.cm_layout.specs.declared.layouts.Leaf.{Leaf}
use Rattle.cm_layout.specs.declared.layouts.Leaf.TheVariants as leaf
use Rattle.cm_abi_model.specs.declared.encoding.StringEncoding.{StringEncoding}
use Rattle.cm_abi_model.specs.declared.fault.AbiFault.TheVariants as fault
use Rattle.cm_abi_model.specs.declared.record.PartRecord.{PartRecord}
use Rattle.cm_abi_model.specs.Numbers.{slot_number, wrapped_at}
use Rattle.cm_abi_load.specs.Outcomes.{Outcome, State, mapped}
use Rattle.cm_abi_load.specs.Reading.{Source, leaf_value, read_at, read_handle}
use Rattle.cm_abi_load.specs.Records.{case_number, element_record, payload, records_at}
use Rattle.cm_abi_lift.specs.FlatReading.{read_flat, read_flat_case, read_flat_each, read_flat_parts, read_passed, read_spilled}
use Rattle.cm_abi_lift.specs.FlatRecords.{flat_records, flat_records_each, flat_records_of_case, flat_records_of_fields, passed_records, spilled_records}
use Rattle.cm_abi_programs.specs.Checks.{char_check, text_check, list_check, handle_check, checks_of, flat_checks_of, flat_field_checks, flat_payload_checks, leaf_checks, passed_checks_of, placed_checks}
use Rattle.cm_abi_running.specs.Checking.{Looked, all_checked, case_checked, checked_each, elements_checked, followed, in_memory, in_slots, passed_checked, spilled_checked, text_checked, unrecorded}
use Rattle.cm_abi_running.proofs.LookedLemmas.{elements_looked, followed_same, in_turn, mapped_through}
use Rattle.cm_abi_running.proofs.CheckLemmas.{both_checked, cases_checked, one_checked, placed_checked, row_checked}
use Rattle.cm_abi_running.proofs.CheckLaws.{looked_at}

got_behind : (slots : List CoreValue) (k i : ℕ) → slice_index_or (drop k slots) i (core_value.I32 0) ≡ slice_index_or slots (k + i) (core_value.I32 0)
got_behind slots zero i = ap (λ n. slice_index_or slots n (core_value.I32 0)) {x = i} {y = 0 + i} (omega arith)
got_behind [] (suc k) i = refl
got_behind (c ∷ slots) (suc k) i =
    got_behind slots k i ∙ ap (λ n. slice_index_or (c ∷ slots) n (core_value.I32 0)) {x = suc (k + i)} {y = suc k + i} (omega arith)

pub behind_both : (slots : List CoreValue) (a b : ℕ) → drop (a + b) slots ≡ drop b (drop a slots)
behind_both slots zero b = ap (λ n. drop n slots) {x = 0 + b} {y = b} (omega arith)
behind_both [] (suc a) zero = ap (λ n. drop n (no_slots)) {x = suc a + 0} {y = suc a} (omega arith)
  where
    no_slots : List CoreValue
    no_slots = []
behind_both [] (suc a) (suc b) = ap (λ n. drop n (no_slots)) {x = suc a + suc b} {y = suc (a + suc b)} (omega arith)
  where
    no_slots : List CoreValue
    no_slots = []
behind_both (c ∷ slots) (suc a) b = ap (λ n. drop n (c ∷ slots)) {x = suc a + b} {y = suc (a + b)} (omega arith) ∙ behind_both slots a b

pub slot_behind : (slots : List CoreValue) (k i n : ℕ) → n ≡ k + i → wrapped_at 4 slots n ≡ wrapped_at 4 (drop k slots) i
slot_behind slots k i n is = ap (λ m. wrapped_at 4 slots m) is ∙ ap (λ c. slot_number c % 2 ^ 32) (sym (got_behind slots k i))

pub wide_behind : (b : ℕ) (slots : List CoreValue) (k : ℕ) → wrapped_at b slots k ≡ wrapped_at b (drop k slots) 0
wide_behind b slots k =
    ap (λ m. wrapped_at b slots m) {x = k} {y = k + 0} (omega arith) ∙ ap (λ c. slot_number c % 2 ^ (8 * b)) (sym (got_behind slots k 0))

-- a pointer and its length
pair_behind : {A : Type 0} (F : ℕ → ℕ → A) (slots : List CoreValue) (k : ℕ)
    → F (wrapped_at 4 slots (k + 0)) (wrapped_at 4 slots (k + 0 + 1)) ≡ F (wrapped_at 4 (drop k slots) 0) (wrapped_at 4 (drop k slots) 1)
pair_behind F slots k =
    ap (λ a. F a (wrapped_at 4 slots (k + 0 + 1))) (slot_behind slots k 0 (k + 0) refl)
    ∙ ap (λ b. F (wrapped_at 4 (drop k slots) 0) b) (slot_behind slots k 1 (k + 0 + 1) (omega arith))

module _ (w : Source) (t : StringEncoding) where
  numbered : (G : ℕ → Val → List PartRecord) (ps : Payloads) (i n : ℕ) (slots : List CoreValue) (s : State)
      → mapped (λ v. G i v) (read_flat_case w ps i n slots s) ≡ mapped (λ v. G (case_number v) v) (read_flat_case w ps i n slots s)
  numbered G no_payloads i n slots s = refl
  numbered G (nothing ps) i zero slots s = refl
  numbered G (nothing ps) i (suc n) slots s = numbered G ps i n slots s
  numbered G (carried e x ps) i zero slots s = borne (read_flat w x slots s)
    where
      borne : (r : Outcome Val) → mapped (λ v. G i v) (mapped (λ v. bearing i v) r) ≡ mapped (λ v. G (case_number v) v) (mapped (λ v. bearing i v) r)
      borne (Ok x) = refl
      borne (Err e) = refl
  numbered G (carried e x ps) i (suc n) slots s = numbered G ps i n slots s

  module _ (slots : List CoreValue) where
    each_flat : (C : ℕ → State → Looked) (R : List CoreValue → Val → List PartRecord) (read : List CoreValue → State → Outcome Val)
        → ((k : ℕ) (s : State) → C k s ≡ mapped (R (drop k slots)) (read (drop k slots) s))
        → (d n k : ℕ) (s : State) → checked_each C d n k s ≡ mapped (flat_records_each R d (drop k slots)) (read_flat_each read d n (drop k slots) s)
    each_flat C R read same d zero k s = refl
    each_flat C R read same d (suc n) k s =
        ap (λ r. followed r (λ u. checked_each C d n (k + d) u)) (same k s)
        ∙ followed_same (mapped (R (drop k slots)) (read (drop k slots) s)) (λ u. checked_each C d n (k + d) u)
        (λ u. mapped (flat_records_each R d (drop d (drop k slots))) (read_flat_each read d n (drop d (drop k slots)) u))
        (λ u. each_flat C R read same d n (k + d) u
        ∙ ap (λ cs. mapped (flat_records_each R d cs) (read_flat_each read d n cs u)) (behind_both slots k d))
        ∙ in_turn (R (drop k slots)) (flat_records_each R d (drop d (drop k slots))) (flat_records_each R d (drop k slots)) val (λ v vs. refl)
        (read (drop k slots) s) (λ u. read_flat_each read d n (drop d (drop k slots)) u)

    leaf_looked : (l : Leaf) (k : ℕ) (s : State)
        → all_checked w t (in_slots slots) (leaf_checks l) k s ≡ mapped (flat_records w t (leaf_shape l) (drop k slots)) (read_flat w (leaf_shape l) (drop k slots) s)
    leaf_looked leaf.Bool k s = refl
    leaf_looked (leaf.Signed b) k s = refl
    leaf_looked (leaf.Unsigned b) k s = refl
    leaf_looked leaf.Char k s =
        one_checked w t (in_slots slots) (char_check 0) k s ∙ ap (λ n. unrecorded (leaf_value leaf.Char n s)) (slot_behind slots k 0 (k + 0) refl)
    leaf_looked (leaf.Flags labels b) k s = refl

    mutual
      pub flat_looked : (x : Shape) (k : ℕ) (s : State)
          → all_checked w t (in_slots slots) (flat_checks_of x) k s ≡ mapped (flat_records w t x (drop k slots)) (read_flat w x (drop k slots) s)
      flat_looked (leaf_shape l) k s = leaf_looked l k s
      flat_looked string_shape k s =
          one_checked w t (in_slots slots) (text_check 0) k s
          ∙ pair_behind (λ a n. text_checked w t a n s) slots k
      flat_looked (list_shape e x) k s =
          one_checked w t (in_slots slots) (list_check 0 e (checks_of x)) k s
          ∙ pair_behind (λ a n. elements_checked w (all_checked w t (in_memory w.memory) (checks_of x)) e a n s) slots k
          ∙ elements_looked (all_checked w t (in_memory w.memory) (checks_of x)) (records_at w t x) (read_at w x) (λ q u. looked_at w t x q u)
          w e (wrapped_at 4 (drop k slots) 0) (wrapped_at 4 (drop k slots) 1) s
      flat_looked (fixed_list_shape e x n) k s =
          row_checked w t (in_slots slots) e.width n (flat_checks_of x) k s
          ∙ each_flat (all_checked w t (in_slots slots) (flat_checks_of x)) (flat_records w t x) (read_flat w x) (λ q u. flat_looked x q u) e.width n k s
          ∙ mapped_through (flat_records w t (fixed_list_shape e x n) (drop k slots)) parts (read_flat_each (read_flat w x) e.width n (drop k slots) s)
      flat_looked (fields_shape ps) k s =
          flat_fields_looked ps 0 k s
          ∙ ap (λ n. mapped (flat_records_of_fields w t ps (drop n slots)) (read_flat_parts w ps (drop n slots) s)) {x = k + 0} {y = k} (omega arith)
          ∙ mapped_through (flat_records w t (fields_shape ps) (drop k slots)) parts (read_flat_parts w ps (drop k slots) s)
      flat_looked (cases_shape b d ps) k s =
          cases_checked w t (in_slots slots) 4 1 (flat_payload_checks ps) k s
          ∙ flat_case_looked ps (wrapped_at 4 slots k) (wrapped_at 4 slots k) (k + 1) s
          ∙ ap (λ cs. mapped (λ v. flat_records_of_case w t ps (wrapped_at 4 slots k) cs (payload v)) (read_flat_case w ps (wrapped_at 4 slots k) (wrapped_at 4 slots k) cs s)) (behind_both slots k 1)
          ∙ numbered (λ i v. flat_records_of_case w t ps i (drop 1 (drop k slots)) (payload v)) ps (wrapped_at 4 slots k) (wrapped_at 4 slots k) (drop 1 (drop k slots)) s
          ∙ ap (λ n. mapped (flat_records w t (cases_shape b d ps) (drop k slots)) (read_flat_case w ps n n (drop 1 (drop k slots)) s)) (slot_behind slots k 0 k (omega arith))
      flat_looked (handle_shape h) k s =
          one_checked w t (in_slots slots) (handle_check 0 h) k s ∙ ap (λ n. unrecorded (read_handle w.table h n s)) (slot_behind slots k 0 (k + 0) refl)

      flat_fields_looked : (ps : Parts) (at k : ℕ) (s : State)
          → all_checked w t (in_slots slots) (flat_field_checks ps at) k s
          ≡ mapped (flat_records_of_fields w t ps (drop (k + at) slots)) (read_flat_parts w ps (drop (k + at) slots) s)
      flat_fields_looked no_parts at k s = refl
      flat_fields_looked (part o e x ps) at k s =
          let here = drop (k + at) slots in
          let later = drop e.width here in
          both_checked w t (in_slots slots) (placed_checks at (flat_checks_of x)) (flat_field_checks ps (at + e.width)) k s
          ∙ ap (λ r. followed r (λ u. all_checked w t (in_slots slots) (flat_field_checks ps (at + e.width)) k u))
          (placed_checked w t (in_slots slots) at (flat_checks_of x) k s ∙ flat_looked x (k + at) s)
          ∙ followed_same (mapped (flat_records w t x here) (read_flat w x here s)) (λ u. all_checked w t (in_slots slots) (flat_field_checks ps (at + e.width)) k u)
          (λ u. mapped (flat_records_of_fields w t ps later) (read_flat_parts w ps later u))
          (λ u. flat_fields_looked ps (at + e.width) k u
          ∙ ap (λ n. mapped (flat_records_of_fields w t ps (drop n slots)) (read_flat_parts w ps (drop n slots) u)) {x = k + (at + e.width)} {y = k + at + e.width} (omega arith)
          ∙ ap (λ cs. mapped (flat_records_of_fields w t ps cs) (read_flat_parts w ps cs u)) (behind_both slots (k + at) e.width))
          ∙ in_turn (flat_records w t x here) (flat_records_of_fields w t ps later) (flat_records_of_fields w t (part o e x ps) here) val (λ v vs. refl)
          (read_flat w x here s) (λ u. read_flat_parts w ps later u)

      flat_case_looked : (ps : Payloads) (i n k : ℕ) (s : State)
          → case_checked w t (in_slots slots) (flat_payload_checks ps) n k s
          ≡ mapped (λ v. flat_records_of_case w t ps n (drop k slots) (payload v)) (read_flat_case w ps i n (drop k slots) s)
      flat_case_looked no_payloads i n k s = refl
      flat_case_looked (nothing ps) i zero k s = refl
      flat_case_looked (nothing ps) i (suc n) k s = flat_case_looked ps i n k s
      flat_case_looked (carried e x ps) i zero k s =
          flat_looked x k s
          ∙ mapped_through (λ v. flat_records_of_case w t (carried e x ps) zero (drop k slots) (payload v)) (λ v. bearing i v) (read_flat w x (drop k slots) s)
      flat_case_looked (carried e x ps) i (suc n) k s = flat_case_looked ps i n k s

  -- ---- a call

  spilled_looked : (l : LayoutTy) (at : ℕ) (s : State) → spilled_checked w t l.head (checks_of l.shape) at s ≡ mapped (spilled_records w t l at) (read_spilled w l at s)
  unfolding read_spilled
  spilled_looked l at s = pick (not (at % l.head.align == 0)) (nat_lt (length w.memory) (at + l.head.size))
    where
      there : (r : Outcome Val) → mapped (λ rs. element_record l.head at 1 ∷ rs) (mapped (records_at w t l.shape at) r) ≡ mapped (spilled_records w t l at) r
      there (Ok x) = refl
      there (Err e) = refl

      pick : (a b : Bool)
          → (if a then Err (fault.Misaligned, s)
          else (if b then Err (fault.PointerBounds, s)
          else mapped (λ rs. element_record l.head at 1 ∷ rs) (all_checked w t (in_memory w.memory) (checks_of l.shape) at s)))
          ≡ mapped (spilled_records w t l at) (if a then Err (fault.Misaligned, s) else (if b then Err (fault.PointerBounds, s) else read_at w l.shape at s))
      pick true b = refl
      pick false true = refl
      pick false false = ap (λ r. mapped (λ rs. element_record l.head at 1 ∷ rs) r) (looked_at w t l.shape at s) ∙ there (read_at w l.shape at s)

  pub passed_looked : (limit : ℕ) (l : LayoutTy) (slots : List CoreValue) (s : State)
      → passed_checked w t limit l.head (passed_checks_of limit l) slots s ≡ mapped (passed_records w t limit l slots) (read_passed w limit l slots s)
  passed_looked limit l slots s = pick (nat_lt limit l.head.width)
    where
      pick : (b : Bool)
          → (if b then spilled_checked w t l.head (if b then checks_of l.shape else flat_checks_of l.shape) (wrapped_at 4 slots 0) s
          else all_checked w t (in_slots slots) (if b then checks_of l.shape else flat_checks_of l.shape) 0 s)
          ≡ mapped (λ v. if b then spilled_records w t l (wrapped_at 4 slots 0) v else flat_records w t l.shape slots v)
          (if b then read_spilled w l (wrapped_at 4 slots 0) s else read_flat w l.shape slots s)
      pick true = spilled_looked l (wrapped_at 4 slots 0) s
      pick false = flat_looked slots l.shape 0 s
