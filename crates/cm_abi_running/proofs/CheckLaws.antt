-- Running the checks of a type is reading a value of it.
use Rattle.std.proofs.Common.{◌≡◌, ℕ, zero, suc, ◌+◌, List, refl, ap, ◌∙◌}
use Rattle.std.specs.Prelude.{Ok, Err}
use Rattle.cm_types.specs.Values.{Val, val, parts, bearing}
use Rattle.cm_layout.specs.Shapes.{Shape, Parts, Payloads, leaf_shape, string_shape, list_shape, fixed_list_shape, fields_shape, cases_shape, handle_shape, no_parts, part, no_payloads, nothing, carried}
use Rattle.cm_layout.specs.declared.layouts.Leaf.{Leaf}
use Rattle.cm_layout.specs.declared.layouts.Leaf.TheVariants as leaf
use Rattle.cm_abi_model.specs.declared.encoding.StringEncoding.{StringEncoding}
use Rattle.cm_abi_model.specs.declared.record.PartRecord.{PartRecord}
use Rattle.cm_abi_model.specs.Numbers.{number_at}
use Rattle.cm_abi_load.specs.Outcomes.{Outcome, State, mapped}
use Rattle.cm_abi_load.specs.Reading.{Source, leaf_value, read_at, read_case, read_each, read_handle, read_parts}
use Rattle.cm_abi_load.specs.Records.{case_number, payload, records_at, records_of_case, records_of_fields}
use Rattle.cm_abi_programs.specs.Checks.{char_check, text_check, list_check, handle_check, checks_of, field_checks, leaf_checks, payload_checks, placed_checks}
use Rattle.cm_abi_running.specs.Checking.{all_checked, case_checked, elements_checked, followed, in_memory, text_checked, unrecorded}
use Rattle.cm_abi_running.proofs.LookedLemmas.{each_looked, elements_looked, followed_same, in_turn, mapped_through}
use Rattle.cm_abi_running.proofs.CheckLemmas.{at_start, both_checked, cases_checked, one_checked, placed_checked, row_checked}

module _ (w : Source) (t : StringEncoding) where
  -- of a case that is read the number is that of the case
  numbered : (G : ℕ → Val → List PartRecord) (ps : Payloads) (i n p : ℕ) (s : State)
      → mapped (λ v. G i v) (read_case w ps i n p s) ≡ mapped (λ v. G (case_number v) v) (read_case w ps i n p s)
  numbered G no_payloads i n p s = refl
  numbered G (nothing ps) i zero p s = refl
  numbered G (nothing ps) i (suc n) p s = numbered G ps i n p s
  numbered G (carried e x ps) i zero p s = borne (read_at w x p s)
    where
      borne : (r : Outcome Val) → mapped (λ v. G i v) (mapped (λ v. bearing i v) r) ≡ mapped (λ v. G (case_number v) v) (mapped (λ v. bearing i v) r)
      borne (Ok x) = refl
      borne (Err e) = refl
  numbered G (carried e x ps) i (suc n) p s = numbered G ps i n p s

  leaf_looked : (k : Leaf) (p : ℕ) (s : State)
      → all_checked w t (in_memory w.memory) (leaf_checks k) p s ≡ mapped (records_at w t (leaf_shape k) p) (read_at w (leaf_shape k) p s)
  leaf_looked leaf.Bool p s = refl
  leaf_looked (leaf.Signed b) p s = refl
  leaf_looked (leaf.Unsigned b) p s = refl
  leaf_looked leaf.Char p s =
      one_checked w t (in_memory w.memory) (char_check 0) p s ∙ ap (λ q. unrecorded (leaf_value leaf.Char (number_at 4 w.memory q) s)) (at_start p)
  leaf_looked (leaf.Flags labels b) p s = refl

  mutual
    pub looked_at : (x : Shape) (p : ℕ) (s : State)
        → all_checked w t (in_memory w.memory) (checks_of x) p s ≡ mapped (records_at w t x p) (read_at w x p s)
    looked_at (leaf_shape k) p s = leaf_looked k p s
    looked_at string_shape p s =
        one_checked w t (in_memory w.memory) (text_check 0) p s
        ∙ ap (λ q. text_checked w t (number_at 4 w.memory q) (number_at 4 w.memory (q + 4)) s) (at_start p)
    looked_at (list_shape e x) p s =
        one_checked w t (in_memory w.memory) (list_check 0 e (checks_of x)) p s
        ∙ ap (λ q. elements_checked w (all_checked w t (in_memory w.memory) (checks_of x)) e (number_at 4 w.memory q) (number_at 4 w.memory (q + 4)) s) (at_start p)
        ∙ elements_looked (all_checked w t (in_memory w.memory) (checks_of x)) (records_at w t x) (read_at w x) (λ q u. looked_at x q u)
        w e (number_at 4 w.memory p) (number_at 4 w.memory (p + 4)) s
    looked_at (fixed_list_shape e x n) p s =
        row_checked w t (in_memory w.memory) e.size n (checks_of x) p s
        ∙ each_looked (all_checked w t (in_memory w.memory) (checks_of x)) (records_at w t x) (read_at w x) (λ q u. looked_at x q u) e.size n p s
        ∙ mapped_through (records_at w t (fixed_list_shape e x n) p) parts (read_each (read_at w x) e.size n p s)
    looked_at (fields_shape ps) p s =
        fields_looked ps p s ∙ mapped_through (records_at w t (fields_shape ps) p) parts (read_parts w ps p s)
    looked_at (cases_shape b d ps) p s =
        cases_checked w t (in_memory w.memory) b d (payload_checks ps) p s
        ∙ case_looked ps (number_at b w.memory p) (number_at b w.memory p) (p + d) s
        ∙ numbered (λ i v. records_of_case w t ps i (p + d) (payload v)) ps (number_at b w.memory p) (number_at b w.memory p) (p + d) s
    looked_at (handle_shape h) p s =
        one_checked w t (in_memory w.memory) (handle_check 0 h) p s
        ∙ ap (λ q. unrecorded (read_handle w.table h (number_at 4 w.memory q) s)) (at_start p)

    fields_looked : (ps : Parts) (p : ℕ) (s : State)
        → all_checked w t (in_memory w.memory) (field_checks ps) p s ≡ mapped (records_of_fields w t ps p) (read_parts w ps p s)
    fields_looked no_parts p s = refl
    fields_looked (part o e x ps) p s =
        both_checked w t (in_memory w.memory) (placed_checks o (checks_of x)) (field_checks ps) p s
        ∙ ap (λ r. followed r (λ u. all_checked w t (in_memory w.memory) (field_checks ps) p u))
        (placed_checked w t (in_memory w.memory) o (checks_of x) p s ∙ looked_at x (p + o) s)
        ∙ followed_same (mapped (records_at w t x (p + o)) (read_at w x (p + o) s)) (λ u. all_checked w t (in_memory w.memory) (field_checks ps) p u)
        (λ u. mapped (records_of_fields w t ps p) (read_parts w ps p u)) (λ u. fields_looked ps p u)
        ∙ in_turn (records_at w t x (p + o)) (records_of_fields w t ps p) (records_of_fields w t (part o e x ps) p) val (λ v vs. refl)
        (read_at w x (p + o) s) (λ u. read_parts w ps p u)

    case_looked : (ps : Payloads) (i n p : ℕ) (s : State)
        → case_checked w t (in_memory w.memory) (payload_checks ps) n p s
        ≡ mapped (λ v. records_of_case w t ps n p (payload v)) (read_case w ps i n p s)
    case_looked no_payloads i n p s = refl
    case_looked (nothing ps) i zero p s = refl
    case_looked (nothing ps) i (suc n) p s = case_looked ps i n p s
    case_looked (carried e x ps) i zero p s =
        looked_at x p s ∙ mapped_through (λ v. records_of_case w t (carried e x ps) zero p (payload v)) (λ v. bearing i v) (read_at w x p s)
    case_looked (carried e x ps) i (suc n) p s = case_looked ps i n p s
