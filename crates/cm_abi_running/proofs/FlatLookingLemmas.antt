-- Looking at values in core values, from one on or in the first of those behind.
use Rattle.std.proofs.Common.{◌≡◌, ℕ, zero, suc, ◌+◌, ◌-◌, ◌<◌, ◌≤◌, ◌∙◌, List, [], ◌++◌, drop, length, refl, sym, ap, subst, arith}
use Rattle.std.specs.Prelude.{nat_lt, if◌then◌else◌, Result, Ok, Err, ⊤}
use Rattle.cm_types.specs.declared.core_value.CoreValue.{CoreValue}
use Rattle.cm_layout.specs.declared.layouts.Leaf.TheVariants as leaf
use Rattle.cm_abi_model.specs.declared.encoding.StringEncoding.{StringEncoding}
use Rattle.cm_abi_model.specs.declared.fault.AbiFault.TheVariants as fault
use Rattle.cm_abi_model.specs.Numbers.{wrapped_at}
use Rattle.cm_abi_load.specs.declared.stop.Stop.{Stop}
use Rattle.cm_abi_load.specs.Outcomes.{State}
use Rattle.cm_abi_model.specs.declared.record.PartRecord.{PartRecord}
use Rattle.cm_abi_load.specs.Reading.{Source, leaf_value, read_handle}
use Rattle.cm_abi_programs.specs.Checks.{Check, Checks, CaseChecks, no_checks, check, no_cases, case, char_check, below_check, text_check, list_check, each_check, cases_check, handle_check, part_check}
use Rattle.cm_abi_running.specs.Checking.{Looked, all_checked, case_checked, checked, checked_each, elements_checked, followed, in_memory, in_slots, text_checked, unrecorded}
use Rattle.cm_abi_running.proofs.FlatCheckLaws.{behind_both, slot_behind}
use Rattle.cm_abi_running.proofs.LookedLemmas.{followed_same}
use Rattle.cm_abi_running.specs.Looks.{Looks, StopsLooking}
use Rattle.cm_abi_running.proofs.LookLemmas.{looks_so}
use Rattle.cm_abi_running.proofs.LookingLemmas.{Came, SoFar, keeps_all, row_end, row_halt, row_turn}

-- a number at a place behind
one_behind : {A : Type 0} (F : ℕ → A) (slots : List CoreValue) (k j at : ℕ) → F (wrapped_at 4 slots (k + j + at)) ≡ F (wrapped_at 4 (drop k slots) (j + at))
one_behind F slots k j at = ap F (slot_behind slots k (j + at) (k + j + at) (omega arith))

-- and the one behind it
two_behind : {A : Type 0} (F : ℕ → ℕ → A) (slots : List CoreValue) (k j at : ℕ)
    → F (wrapped_at 4 slots (k + j + at)) (wrapped_at 4 slots (k + j + at + 1)) ≡ F (wrapped_at 4 (drop k slots) (j + at)) (wrapped_at 4 (drop k slots) (j + at + 1))
two_behind F slots k j at =
    ap (λ a. F a (wrapped_at 4 slots (k + j + at + 1))) (slot_behind slots k (j + at) (k + j + at) (omega arith))
    ∙ ap (λ b. F (wrapped_at 4 (drop k slots) (j + at)) b) (slot_behind slots k (j + at + 1) (k + j + at + 1) (omega arith))

-- a place behind a place
behind_place : {A : Type 0} (F : ℕ → A) (k j at : ℕ) → F (k + j + at) ≡ F (k + (j + at))
behind_place F k j at = ap F {x = k + j + at} {y = k + (j + at)} (omega arith)

module _ (w : Source) (t : StringEncoding) (slots : List CoreValue) (k : ℕ) where
  row_behind : (C D : ℕ → State → Looked) → ((j : ℕ) (s : State) → C (k + j) s ≡ D j s) → (d n j : ℕ) (s : State) → checked_each C d n (k + j) s ≡ checked_each D d n j s
  row_behind C D same d zero j s = refl
  row_behind C D same d (suc n) j s =
      ap (λ r. followed r (λ u. checked_each C d n (k + j + d) u)) (same j s)
      ∙ followed_same (D j s) (λ u. checked_each C d n (k + j + d) u) (λ u. checked_each D d n (j + d) u)
      (λ u. behind_place (λ q. checked_each C d n q u) k j d ∙ row_behind C D same d n (j + d) u)

  mutual
    one_checked_behind : (c : Check) (j : ℕ) (s : State) → checked w t (in_slots slots) c (k + j) s ≡ checked w t (in_slots (drop k slots)) c j s
    one_checked_behind (char_check at) j s = one_behind (λ n. unrecorded (leaf_value leaf.Char n s)) slots k j at
    one_checked_behind (below_check at b n) j s = one_behind (λ m. if nat_lt m n then Ok ([], s) else Err (fault.BadCase, s)) slots k j at
    one_checked_behind (text_check at) j s = two_behind (λ a n. text_checked w t a n s) slots k j at
    one_checked_behind (list_check at e cs) j s = two_behind (λ a n. elements_checked w (all_checked w t (in_memory w.memory) cs) e a n s) slots k j at
    one_checked_behind (each_check at d n cs) j s =
        behind_place (λ q. checked_each (all_checked w t (in_slots slots) cs) d n q s) k j at
        ∙ row_behind (all_checked w t (in_slots slots) cs) (all_checked w t (in_slots (drop k slots)) cs) (λ i u. checked_behind cs i u) d n (j + at) s
    one_checked_behind (cases_check at b d cs) j s =
        one_behind (λ n. case_checked w t (in_slots slots) cs n (k + j + at + d) s) slots k j at
        ∙ ap (λ q. case_checked w t (in_slots slots) cs (wrapped_at 4 (drop k slots) (j + at)) q s) {x = k + j + at + d} {y = k + (j + at + d)} (omega arith)
        ∙ case_checked_behind cs (wrapped_at 4 (drop k slots) (j + at)) (j + at + d) s
    one_checked_behind (handle_check at h) j s = one_behind (λ n. unrecorded (read_handle w.table h n s)) slots k j at
    one_checked_behind (part_check at cs) j s = behind_place (λ q. all_checked w t (in_slots slots) cs q s) k j at ∙ checked_behind cs (j + at) s

    checked_behind : (cs : Checks) (j : ℕ) (s : State) → all_checked w t (in_slots slots) cs (k + j) s ≡ all_checked w t (in_slots (drop k slots)) cs j s
    checked_behind no_checks j s = refl
    checked_behind (check c cs) j s =
        ap (λ r. followed r (λ u. all_checked w t (in_slots slots) cs (k + j) u)) (one_checked_behind c j s)
        ∙ followed_same (checked w t (in_slots (drop k slots)) c j s) (λ u. all_checked w t (in_slots slots) cs (k + j) u) (λ u. all_checked w t (in_slots (drop k slots)) cs j u) (λ u. checked_behind cs j u)

    case_checked_behind : (cs : CaseChecks) (i j : ℕ) (s : State) → case_checked w t (in_slots slots) cs i (k + j) s ≡ case_checked w t (in_slots (drop k slots)) cs i j s
    case_checked_behind no_cases i j s = refl
    case_checked_behind (case cs rest) zero j s = checked_behind cs j s
    case_checked_behind (case cs rest) (suc i) j s = case_checked_behind rest i j s

-- what stands at a place is what stands first behind it
module _ (w : Source) (t : StringEncoding) (slots : List CoreValue) (k : ℕ) where
  first : {A : Type 0} (F : ℕ → A) → F k ≡ F (k + 0)
  first F = ap F {x = k} {y = k + 0} (omega arith)

  pub part_behind : (cs : Checks) (s : State) → all_checked w t (in_slots slots) cs k s ≡ all_checked w t (in_slots (drop k slots)) cs 0 s
  part_behind cs s = first (λ q. all_checked w t (in_slots slots) cs q s) ∙ checked_behind w t slots k cs 0 s

  pub each_behind : (cs : Checks) (d n : ℕ) (s : State) → checked_each (all_checked w t (in_slots slots) cs) d n k s ≡ checked_each (all_checked w t (in_slots (drop k slots)) cs) d n 0 s
  each_behind cs d n s =
      first (λ q. checked_each (all_checked w t (in_slots slots) cs) d n q s)
      ∙ row_behind w t slots k (all_checked w t (in_slots slots) cs) (all_checked w t (in_slots (drop k slots)) cs) (λ j u. checked_behind w t slots k cs j u) d n 0 s

  pub cases_behind : (cs : CaseChecks) (i : ℕ) (s : State) → case_checked w t (in_slots slots) cs i k s ≡ case_checked w t (in_slots (drop k slots)) cs i 0 s
  cases_behind cs i s = first (λ q. case_checked w t (in_slots slots) cs i q s) ∙ case_checked_behind w t slots k cs i 0 s

-- the number of a place, and the one behind it, from the first one on
pub zero_slot : (slots : List CoreValue) (at : ℕ) → wrapped_at 4 slots at ≡ wrapped_at 4 slots (0 + at)
zero_slot slots at = ap (λ n. wrapped_at 4 slots n) {x = at} {y = 0 + at} (omega arith)

pub zero_next : (slots : List CoreValue) (at : ℕ) → wrapped_at 4 slots (at + 1) ≡ wrapped_at 4 slots (0 + at + 1)
zero_next slots at = ap (λ n. wrapped_at 4 slots n) {x = at + 1} {y = 0 + at + 1} (omega arith)

-- ---- what is looked at in the core values behind

module _ (w : Source) (t : StringEncoding) (slots row : List CoreValue) (old new : List PartRecord) (s u : State) (r : Result ⊤ Stop) where
  pub part_looked : (cs : Checks) (at : ℕ) → row ≡ drop at slots → Looks (all_checked w t (in_slots row) cs 0 s) old new s u r → Looks (all_checked w t (in_slots slots) cs (0 + at) s) old new s u r
  part_looked cs at is looks =
      looks_so (all_checked w t (in_slots slots) cs (0 + at) s) (all_checked w t (in_slots row) cs 0 s) old new s u r
      (part_behind w t slots (0 + at) cs s ∙ ap (λ xs. all_checked w t (in_slots xs) cs 0 s) (ap (λ k. drop k slots) {x = 0 + at} {y = at} (omega arith) ∙ sym is)) looks

  pub row_looked : (cs : Checks) (d n at : ℕ) → row ≡ drop at slots → Looks (checked_each (all_checked w t (in_slots row) cs) d n 0 s) old new s u r → Looks (checked_each (all_checked w t (in_slots slots) cs) d n (0 + at) s) old new s u r
  row_looked cs d n at is looks =
      looks_so (checked_each (all_checked w t (in_slots slots) cs) d n (0 + at) s) (checked_each (all_checked w t (in_slots row) cs) d n 0 s) old new s u r
      (each_behind w t slots (0 + at) cs d n s ∙ ap (λ xs. checked_each (all_checked w t (in_slots xs) cs) d n 0 s) (ap (λ k. drop k slots) {x = 0 + at} {y = at} (omega arith) ∙ sym is)) looks

  -- what a case carries stands so far behind its number
  pub payload_looked : (cs : Checks) (at d : ℕ) (mid : List CoreValue) → mid ≡ drop at slots → row ≡ drop d mid → Looks (all_checked w t (in_slots row) cs 0 s) old new s u r → Looks (all_checked w t (in_slots slots) cs (0 + at + d) s) old new s u r
  payload_looked cs at d mid first is looks =
      looks_so (all_checked w t (in_slots slots) cs (0 + at + d) s) (all_checked w t (in_slots row) cs 0 s) old new s u r
      (part_behind w t slots (0 + at + d) cs s
      ∙ ap (λ xs. all_checked w t (in_slots xs) cs 0 s) (ap (λ k. drop k slots) {x = 0 + at + d} {y = at + d} (omega arith) ∙ (behind_both slots at d ∙ (ap (λ xs. drop d xs) (sym first) ∙ sym is)))) looks

-- ---- values in a row, of which those to come are passed by the core values behind

module _ (w : Source) (t : StringEncoding) (cs : Checks) (rest : List CoreValue) (d : ℕ) where
  pub flat_row_turn : (next : List CoreValue) (count i : ℕ) (all : Looked) (old now new : List PartRecord) (s z u : State) → i < count → next ≡ drop d rest
      → SoFar all (checked_each (all_checked w t (in_slots rest) cs) d (count - i) 0 z) old now s z → Came (all_checked w t (in_slots rest) cs 0 z) now new u
      → SoFar all (checked_each (all_checked w t (in_slots next) cs) d (count - (i + 1)) 0 u) old new s u
  flat_row_turn next count i all old now new s z u lt is so came =
      subst (λ q. SoFar all q old new s u)
      (each_behind w t rest d cs d (count - (i + 1)) u ∙ ap (λ xs. checked_each (all_checked w t (in_slots xs) cs) d (count - (i + 1)) 0 u) (sym is))
      (row_turn (all_checked w t (in_slots rest) cs) d (λ q v. keeps_all w t (in_slots rest) cs q v) count i 0 d all old now new s z u lt (omega arith) so came)

  pub flat_row_halt : (count i : ℕ) (all : Looked) (old now : List PartRecord) (s z u : State) (e : Stop) → i < count
      → SoFar all (checked_each (all_checked w t (in_slots rest) cs) d (count - i) 0 z) old now s z → StopsLooking (all_checked w t (in_slots rest) cs 0 z) z u e → StopsLooking all s u e
  flat_row_halt count i all old now s z u e lt so stops =
      row_halt (all_checked w t (in_slots rest) cs) d (λ q v. keeps_all w t (in_slots rest) cs q v) count i 0 all old now s z u e lt so stops

  pub flat_row_end : (count i : ℕ) (all : Looked) (old now : List PartRecord) (s z : State) → count ≤ i
      → SoFar all (checked_each (all_checked w t (in_slots rest) cs) d (count - i) 0 z) old now s z → Came all old now z
  flat_row_end count i all old now s z past so = row_end (all_checked w t (in_slots rest) cs) d (λ q v. keeps_all w t (in_slots rest) cs q v) count i 0 all old now s z past so
