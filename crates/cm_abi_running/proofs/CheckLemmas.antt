-- Checks of a value that begins elsewhere, in a row, and in cases.
use Rattle.std.proofs.Common.{◌≡◌, ℕ, zero, suc, ◌+◌, inl, inr, [], refl, sym, ap, ◌∙◌, arith}
use Rattle.std.proofs.lemmas.Bool.{and_parts, cases_lt, lt-ltb, le-ltb}
use Rattle.std.specs.Prelude.{Bool, true, false, nat_lt, if◌then◌else◌, Ok, Err}
use Rattle.cm_layout.specs.declared.layouts.Leaf.TheVariants as leaf
use Rattle.cm_abi_model.specs.declared.encoding.StringEncoding.{StringEncoding}
use Rattle.cm_abi_model.specs.declared.fault.AbiFault.TheVariants as fault
use Rattle.cm_abi_load.specs.Outcomes.{State}
use Rattle.cm_abi_load.specs.Reading.{Source, leaf_value, read_handle}
use Rattle.cm_abi_programs.specs.declared.limits.TheConstants.{FEW}
use Rattle.cm_abi_programs.specs.Checks.{Check, Checks, CaseChecks, no_checks, check, no_cases, case, char_check, below_check, text_check, list_check, each_check, cases_check, handle_check, part_check}
use Rattle.cm_abi_programs.specs.Checks.{are_unchecked, both_checks, case_count, cases_checks, check_count, is_unchecked, moved_check, moved_checks, one_check, placed_checks, row_checks}
use Rattle.cm_abi_running.specs.Checking.{Numbers, all_checked, case_checked, checked, checked_each, elements_checked, followed, in_memory, text_checked, unrecorded}
use Rattle.cm_abi_running.proofs.LookedLemmas.{followed_none, followed_same, followed_twice, none_followed}
use Rattle.cm_lemmas.proofs.Bools.{false_not_true}

pub at_start : (p : ℕ) → p + 0 ≡ p
at_start p = omega arith

further : (p o at : ℕ) → p + (o + at) ≡ p + o + at
further p o at = omega arith

module _ (w : Source) (t : StringEncoding) (f : Numbers) where
  pub one_checked : (c : Check) (p : ℕ) (s : State) → all_checked w t f (one_check c) p s ≡ checked w t f c p s
  one_checked c p s = followed_none (checked w t f c p s)

  pub both_checked : (cs ds : Checks) (p : ℕ) (s : State)
      → all_checked w t f (both_checks cs ds) p s ≡ followed (all_checked w t f cs p s) (λ u. all_checked w t f ds p u)
  both_checked no_checks ds p s = sym (none_followed s (λ u. all_checked w t f ds p u))
  both_checked (check c cs) ds p s =
      followed_same (checked w t f c p s) (λ u. all_checked w t f (both_checks cs ds) p u)
      (λ u. followed (all_checked w t f cs p u) (λ u. all_checked w t f ds p u)) (λ u. both_checked cs ds p u)
      ∙ sym (followed_twice (checked w t f c p s) (λ u. all_checked w t f cs p u) (λ u. all_checked w t f ds p u))

  -- ---- elsewhere

  moved_one : (o : ℕ) (c : Check) (p : ℕ) (s : State) → checked w t f (moved_check o c) p s ≡ checked w t f c (p + o) s
  moved_one o (char_check at) p s = ap (λ q. unrecorded (leaf_value leaf.Char (f.number 4 q) s)) (further p o at)
  moved_one o (below_check at b n) p s = ap (λ q. if nat_lt (f.number b q) n then Ok ([], s) else Err (fault.BadCase, s)) (further p o at)
  moved_one o (text_check at) p s = ap (λ q. text_checked w t (f.number 4 q) (f.number 4 (q + f.length_behind)) s) (further p o at)
  moved_one o (list_check at e cs) p s =
      ap (λ q. elements_checked w (all_checked w t (in_memory w.memory) cs) e (f.number 4 q) (f.number 4 (q + f.length_behind)) s) (further p o at)
  moved_one o (each_check at d n cs) p s = ap (λ q. checked_each (all_checked w t f cs) d n q s) (further p o at)
  moved_one o (cases_check at b d cs) p s = ap (λ q. case_checked w t f cs (f.number b q) (q + d) s) (further p o at)
  moved_one o (handle_check at h) p s = ap (λ q. unrecorded (read_handle w.table h (f.number 4 q) s)) (further p o at)
  moved_one o (part_check at cs) p s = ap (λ q. all_checked w t f cs q s) (further p o at)

  moved_all : (o : ℕ) (cs : Checks) (p : ℕ) (s : State) → all_checked w t f (moved_checks o cs) p s ≡ all_checked w t f cs (p + o) s
  moved_all o no_checks p s = refl
  moved_all o (check c cs) p s =
      ap (λ r. followed r (λ u. all_checked w t f (moved_checks o cs) p u)) (moved_one o c p s)
      ∙ followed_same (checked w t f c (p + o) s) (λ u. all_checked w t f (moved_checks o cs) p u) (λ u. all_checked w t f cs (p + o) u) (λ u. moved_all o cs p u)

  pub placed_checked : (o : ℕ) (cs : Checks) (p : ℕ) (s : State) → all_checked w t f (placed_checks o cs) p s ≡ all_checked w t f cs (p + o) s
  placed_checked o cs p s = pick (nat_lt FEW (check_count cs))
    where
      pick : (b : Bool) → all_checked w t f (if b then one_check (part_check o cs) else moved_checks o cs) p s ≡ all_checked w t f cs (p + o) s
      pick true = one_checked (part_check o cs) p s
      pick false = moved_all o cs p s

  -- ---- in a row

  nothing_in_row : (d n p : ℕ) (s : State) → Ok ([], s) ≡ checked_each (all_checked w t f no_checks) d n p s
  nothing_in_row d zero p s = refl
  nothing_in_row d (suc n) p s = nothing_in_row d n (p + d) s ∙ sym (none_followed s (λ u. checked_each (all_checked w t f no_checks) d n (p + d) u))

  pub row_checked : (d n : ℕ) (cs : Checks) (p : ℕ) (s : State) → all_checked w t f (row_checks d n cs) p s ≡ checked_each (all_checked w t f cs) d n p s
  row_checked d n no_checks p s = nothing_in_row d n p s
  row_checked d n (check c cs) p s =
      one_checked (each_check 0 d n (check c cs)) p s ∙ ap (λ q. checked_each (all_checked w t f (check c cs)) d n q s) (at_start p)

  -- ---- in cases

  one_more : (i n : ℕ) → nat_lt (suc i) (suc n) ≡ nat_lt i n
  one_more i n = elim (cases_lt i n) [
    | inl lt ↦ lt-ltb (suc i) (suc n) (omega (arith, lt)) ∙ sym (lt-ltb i n lt)
    | inr le ↦ le-ltb (suc i) (suc n) (omega (arith, le)) ∙ sym (le-ltb i n le)
  ]

  unchecked : (cs : Checks) (p : ℕ) (s : State) → is_unchecked cs ≡ true → Ok ([], s) ≡ all_checked w t f cs p s
  unchecked no_checks p s none = refl
  unchecked (check c cs) p s none = absurd (false_not_true none)

  below : (cs : CaseChecks) (i p : ℕ) (s : State) → are_unchecked cs ≡ true
      → (if nat_lt i (case_count cs) then Ok ([], s) else Err (fault.BadCase, s)) ≡ case_checked w t f cs i p s
  below no_cases i p s none = rw (le-ltb i 0 (omega arith)) refl
  below (case cs rest) zero p s none = rw (lt-ltb 0 (suc (case_count rest)) (omega arith)) (unchecked cs p s (and_parts _ _ none).0)
  below (case cs rest) (suc i) p s none = rw (one_more i (case_count rest)) (below rest i p s (and_parts _ _ none).1)

  pub cases_checked : (b d : ℕ) (cs : CaseChecks) (p : ℕ) (s : State) → all_checked w t f (cases_checks b d cs) p s ≡ case_checked w t f cs (f.number b p) (p + d) s
  cases_checked b d cs p s = pick (are_unchecked cs) refl
    where
      pick : (u : Bool) → are_unchecked cs ≡ u
          → all_checked w t f (if u then one_check (below_check 0 b (case_count cs)) else one_check (cases_check 0 b d cs)) p s ≡ case_checked w t f cs (f.number b p) (p + d) s
      pick true none =
          one_checked (below_check 0 b (case_count cs)) p s
          ∙ ap (λ q. if nat_lt (f.number b q) (case_count cs) then Ok ([], s) else Err (fault.BadCase, s)) (at_start p)
          ∙ below cs (f.number b p) (p + d) s none
      pick false some = one_checked (cases_check 0 b d cs) p s ∙ ap (λ q. case_checked w t f cs (f.number b q) (q + d) s) (at_start p)
