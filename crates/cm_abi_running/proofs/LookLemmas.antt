-- What looking by each check comes to.
use Rattle.std.proofs.Common.{◌≡◌, ℕ, zero, suc, ◌+◌, ◌*◌, ◌<◌, ◌≤◌, List, [], ◌∷◌, ◌++◌, append_assoc, append-nil, drop, length, get_or, map, Vec, Global, refl, sym, ap, subst, ◌∙◌, arith}
use Rattle.std.proofs.lemmas.Bool.{le-ltb, lt-ltb}
use Rattle.std.proofs.lemmas.Bool.Decides.{nat_tests}
use Rattle.std.specs.Prelude.{true, false, ◌==◌, IfErr, OnOk, nat_lt, if◌then◌else◌, Result, Ok, Err, ⊤}
use Rattle.std.specs.declared.sync.Arc.{Arc}
use Rattle.cm_types.specs.declared.core_value.CoreValue.{CoreValue}
use Rattle.cm_types.specs.TypedValues.{is_scalar_value}
use Rattle.cm_layout.specs.declared.heads.Head.{Head}
use Rattle.cm_layout.specs.declared.layouts.HandleType.{HandleType}
use Rattle.cm_layout.specs.declared.layouts.Leaf.TheVariants as leaf
use Rattle.cm_abi_model.specs.declared.encoding.StringEncoding.{StringEncoding}
use Rattle.cm_abi_model.specs.declared.fault.AbiFault.TheVariants as fault
use Rattle.cm_abi_model.specs.declared.record.PartRecord.{PartRecord}
use Rattle.cm_abi_load.specs.declared.stop.Stop.{Stop}
use Rattle.cm_abi_load.specs.declared.stop.Stop.TheVariants as stop
use Rattle.cm_abi_load.specs.Making.{HasMore, KeepsHandles}
use Rattle.cm_abi_load.specs.Outcomes.{Outcome, State, Stops, mapped, ◌>>=◌}
use Rattle.cm_abi_load.specs.Reading.{Source, leaf_value, read_handle, region}
use Rattle.cm_abi_load.specs.Records.{element_record}
use Rattle.cm_abi_programs.specs.Checks.{Check, Checks, CaseChecks, no_checks, char_check, below_check, text_check, list_check, each_check, cases_check, handle_check, part_check}
use Rattle.cm_abi_programs.specs.Coded.{case_of, cases_from, check_of, checks_in}
use Rattle.cm_abi_programs.specs.declared.checks.CaseChecks.{CaseChecks as CodedCase, out-CaseChecks}
use Rattle.cm_abi_programs.specs.declared.checks.Check.{Check as CodedCheck}
use Rattle.cm_abi_programs.specs.declared.checks.Check.TheViews as view
use Rattle.cm_abi_programs.specs.declared.checks.Check.TheVariants as variant
use Rattle.cm_abi_programs.proofs.CheckForms.{case_is, seen_Char, seen_Below, seen_Text, seen_List, seen_Each, seen_Cases, seen_Handle, seen_Part}
use Rattle.cm_abi_running.specs.Checking.{Looked, Numbers, all_checked, case_checked, checked, checked_each, elements_checked, in_memory, in_slots, text_checked, unrecorded}
use Rattle.cm_abi_running.proofs.LookedLemmas.{none_followed}
use Rattle.cm_abi_running.specs.Looks.{KeepsList, Looks, StopsLooking}
use Rattle.cm_abi_running.proofs.LookingLemmas.{Came, keeps_row}
use Rattle.cm_abi_load.proofs.HandleLemmas.{keeps_region}

-- what comes to the same is looked at so
pub looks_so : {A : Type 0} (a b : Looked) (old new : List PartRecord) (s u : State) (r : Result A Stop) → a ≡ b → Looks b old new s u r → Looks a old new s u r
looks_so a b old new s u r is = subst (λ q. Looks q old new s u r) (sym is)

-- a char, and the number of a case

pub fine_char : (n : ℕ) (s : State) (rs : List PartRecord) → is_scalar_value n ≡ true → Came (unrecorded (leaf_value leaf.Char n s)) rs rs s
fine_char n s rs fine = ([], rw fine refl, sym (append-nil rs))

pub bad_char : (n : ℕ) (s : State) → is_scalar_value n ≡ false → unrecorded (leaf_value leaf.Char n s) ≡ Err (fault.BadChar, s)
bad_char n s bad = rw bad refl

pub case_there : (i n : ℕ) (s : State) (rs : List PartRecord) → i < n → Came (if nat_lt i n then Ok ([], s) else Err (fault.BadCase, s)) rs rs s
case_there i n s rs lt = ([], rw (lt-ltb i n lt) refl, sym (append-nil rs))

pub no_case : (i n : ℕ) (s : State) → n ≤ i → ◌≡◌ {A = Looked} (if nat_lt i n then Ok ([], s) else Err (fault.BadCase, s)) (Err (fault.BadCase, s))
no_case i n s past = rw (le-ltb i n past) refl

module _ (w : Source) (t : StringEncoding) (f : Numbers) where
  case_at : (cs : List CodedCase) (i q : ℕ) (x : CodedCase) (s : State) → i < length cs → x ≡ get_or cs i x
      → case_checked w t f (cases_from (map case_of cs)) i q s ≡ all_checked w t f (case_of x) q s
  case_at [] i q x s lt is = absurd (omega (arith, lt))
  case_at (y ∷ cs) zero q x s lt is = ap (λ r. all_checked w t f (case_of r) q s) (sym is)
  case_at (y ∷ cs) (suc i) q x s lt is = case_at cs i q x s (omega (arith, lt)) is

  case_past : (cs : List CodedCase) (i q : ℕ) (s : State) → length cs ≤ i → case_checked w t f (cases_from (map case_of cs)) i q s ≡ Err (fault.BadCase, s)
  case_past [] i q s past = refl
  case_past (y ∷ cs) zero q s past = absurd (omega (arith, past))
  case_past (y ∷ cs) (suc i) q s past = case_past cs i q s (omega (arith, past))

  module _ (c : CodedCheck) (p : ℕ) (s u : State) (old new : List PartRecord) (r : Result ⊤ Stop) where
    by_form : (x : Check) → check_of c ≡ x → Looks (checked w t f x p s) old new s u r → Looks (checked w t f (check_of c) p s) old new s u r
    by_form x is = looks_so (checked w t f (check_of c) p s) (checked w t f x p s) old new s u r (ap (λ y. checked w t f y p s) is)

    pub look_Char : (at n : ℕ) → c ≡ variant.Char at → n ≡ f.number 4 (p + at) → Looks (unrecorded (leaf_value leaf.Char n s)) old new s u r → Looks (checked w t f (check_of c) p s) old new s u r
    look_Char at n is number looks = by_form (char_check at) (ap check_of is ∙ seen_Char at) (subst (λ m. Looks (unrecorded (leaf_value leaf.Char m s)) old new s u r) number looks)

    pub look_Below : (at b k n : ℕ) → c ≡ variant.Below at b k → n ≡ f.number b (p + at) → Looks (if nat_lt n k then Ok ([], s) else Err (fault.BadCase, s)) old new s u r → Looks (checked w t f (check_of c) p s) old new s u r
    look_Below at b k n is number looks =
        by_form (below_check at b k) (ap check_of is ∙ seen_Below at b k) (subst (λ m. Looks (if nat_lt m k then Ok ([], s) else Err (fault.BadCase, s)) old new s u r) number looks)

    pub look_Text : (at n m : ℕ) → c ≡ variant.Text at → n ≡ f.number 4 (p + at) → m ≡ f.number 4 (p + at + f.length_behind) → Looks (text_checked w t n m s) old new s u r → Looks (checked w t f (check_of c) p s) old new s u r
    look_Text at n m is first second looks =
        by_form (text_check at) (ap check_of is ∙ seen_Text at)
        (subst (λ y. Looks (text_checked w t (f.number 4 (p + at)) y s) old new s u r) second (subst (λ x. Looks (text_checked w t x m s) old new s u r) first looks))

    pub look_List : (at n m : ℕ) (e : Head) (cs : Arc (Vec CodedCheck Global) Global) (items : List CodedCheck) → c ≡ view.List at e cs → items ≡ cs.value.items → n ≡ f.number 4 (p + at) → m ≡ f.number 4 (p + at + f.length_behind)
        → Looks (elements_checked w (all_checked w t (in_memory w.memory) (checks_in items)) e n m s) old new s u r → Looks (checked w t f (check_of c) p s) old new s u r
    look_List at n m e cs items is same first second looks =
        let C = all_checked w t (in_memory w.memory) (checks_in cs.value.items) in
        by_form (list_check at e (checks_in cs.value.items)) (ap check_of is ∙ seen_List at e cs)
        (subst (λ y. Looks (elements_checked w C e (f.number 4 (p + at)) y s) old new s u r) second
        (subst (λ x. Looks (elements_checked w C e x m s) old new s u r) first
        (subst (λ xs. Looks (elements_checked w (all_checked w t (in_memory w.memory) (checks_in xs)) e n m s) old new s u r) same looks)))

    pub look_Each : (at d n : ℕ) (cs : Arc (Vec CodedCheck Global) Global) (items : List CodedCheck) → c ≡ view.Each at d n cs → items ≡ cs.value.items
        → Looks (checked_each (all_checked w t f (checks_in items)) d n (p + at) s) old new s u r → Looks (checked w t f (check_of c) p s) old new s u r
    look_Each at d n cs items is same looks =
        by_form (each_check at d n (checks_in cs.value.items)) (ap check_of is ∙ seen_Each at d n cs)
        (subst (λ xs. Looks (checked_each (all_checked w t f (checks_in xs)) d n (p + at) s) old new s u r) same looks)

    pub look_Case : (at b d i : ℕ) (cs : Arc (Vec CodedCase Global) Global) (x : CodedCase) (items : List CodedCheck) → c ≡ view.Cases at b d cs → i ≡ f.number b (p + at)
        → i < length cs.value.items → x ≡ get_or cs.value.items i x → items ≡ (out-CaseChecks x).checks.value.items → Looks (all_checked w t f (checks_in items) (p + at + d) s) old new s u r → Looks (checked w t f (check_of c) p s) old new s u r
    look_Case at b d i cs x items is number lt there same looks =
        by_form (cases_check at b d (cases_from (map case_of cs.value.items))) (ap check_of is ∙ seen_Cases at b d cs)
        (subst (λ j. Looks (case_checked w t f (cases_from (map case_of cs.value.items)) j (p + at + d) s) old new s u r) number
        (looks_so (case_checked w t f (cases_from (map case_of cs.value.items)) i (p + at + d) s) (all_checked w t f (case_of x) (p + at + d) s) old new s u r (case_at cs.value.items i (p + at + d) x s lt there)
        (subst (λ ks. Looks (all_checked w t f ks (p + at + d) s) old new s u r) (ap checks_in same ∙ sym (case_is x)) looks)))

    pub look_Handle : (at n : ℕ) (h : HandleType) → c ≡ variant.Handle at h → n ≡ f.number 4 (p + at) → Looks (unrecorded (read_handle w.table h n s)) old new s u r → Looks (checked w t f (check_of c) p s) old new s u r
    look_Handle at n h is number looks = by_form (handle_check at h) (ap check_of is ∙ seen_Handle at h) (subst (λ m. Looks (unrecorded (read_handle w.table h m s)) old new s u r) number looks)

    pub look_Part : (at : ℕ) (cs : Arc (Vec CodedCheck Global) Global) (items : List CodedCheck) → c ≡ view.Part at cs → items ≡ cs.value.items → Looks (all_checked w t f (checks_in items) (p + at) s) old new s u r → Looks (checked w t f (check_of c) p s) old new s u r
    look_Part at cs items is same looks =
        by_form (part_check at (checks_in cs.value.items)) (ap check_of is ∙ seen_Part at cs) (subst (λ xs. Looks (all_checked w t f (checks_in xs) (p + at) s) old new s u r) same looks)

  -- past the last case
  pub look_past : (c : CodedCheck) (p : ℕ) (s : State) (at b d i : ℕ) (cs : Arc (Vec CodedCase Global) Global) → c ≡ view.Cases at b d cs → i ≡ f.number b (p + at)
      → length cs.value.items ≤ i → checked w t f (check_of c) p s ≡ Err (fault.BadCase, s)
  look_past c p s at b d i cs is number past =
      ap (λ y. checked w t f y p s) (ap check_of is ∙ seen_Cases at b d cs)
      ∙ (ap (λ j. case_checked w t f (cases_from (map case_of cs.value.items)) j (p + at + d) s) (sym number)
      ∙ case_past cs.value.items i (p + at + d) s past)

-- ---- values in a row, of which nothing is looked at

module _ (w : Source) (t : StringEncoding) (f : Numbers) where
  none_row : (d n p : ℕ) (s : State) → checked_each (all_checked w t f no_checks) d n p s ≡ Ok ([], s)
  none_row d zero p s = refl
  none_row d (suc n) p s = none_followed s (λ u. checked_each (all_checked w t f no_checks) d n (p + d) u) ∙ none_row d n (p + d) s

  pub empty_row : (cs : List CodedCheck) (d n p : ℕ) (s : State) (old : List PartRecord) → (length cs == 0) ≡ true → Came (checked_each (all_checked w t f (checks_in cs)) d n p s) old old s
  empty_row [] d n p s old none = ([], none_row d n p s, sym (append-nil old))
  empty_row (x ∷ cs) d n p s old none = absurd (some (length cs) none)
    where
      some : (m : ℕ) → (suc m == 0) ≡ true → ⊥
      some m is = grind (arith, nat_tests, is)

-- ---- a list, with its record before those of its elements

module _ (w : Source) (C : ℕ → State → Looked) (keeps : (q : ℕ) (u : State) → KeepsHandles u (C q u)) (e : Head) (at n : ℕ) (s : State) where
  more_elements : (t : State) → length s.handles ≤ length t.handles → (q : Looked) → KeepsHandles t q → HasMore (λ (rs : List PartRecord). rs) s (mapped (λ rs. element_record e at n ∷ rs) q)
  more_elements t met (Ok x) kept = omega (arith, met, kept)
  more_elements t met (Err f) kept = tt

  elements_more : HasMore (λ (rs : List PartRecord). rs) s (elements_checked w C e at n s)
  elements_more = go (region w.memory e.align at (n * e.size) s) (keeps_region w.memory e.align at (n * e.size) s)
    where
      go : (q : Outcome ⊤) → KeepsHandles s q → HasMore (λ (rs : List PartRecord). rs) s (q >>= λ r. mapped (λ rs. element_record e at n ∷ rs) (checked_each C e.size n at r.1))
      go (Ok r) kept = more_elements r.1 kept (checked_each C e.size n at r.1) (keeps_row C keeps e.size n at r.1)
      go (Err f) kept = tt

  pub elements_stop : (old new : List PartRecord) (t : State) (f : Stop) → KeepsList w e at n old new s t (Err f) → StopsLooking (elements_checked w C e at n s) s t f
  elements_stop old new t stop.Memory is = elements_more
  elements_stop old new t (stop.Fault f) is = ap (λ (q : Outcome ⊤). q >>= λ r. mapped (λ rs. element_record e at n ∷ rs) (checked_each C e.size n at r.1)) is

  pub elements_look : (old now new : List PartRecord) (t u : State) (r : Result ⊤ Stop) → KeepsList w e at n old now s t (Ok tt) → Looks (checked_each C e.size n at t) now new t u r → Looks (elements_checked w C e at n s) old new s u r
  elements_look old now new t u (Ok a) kept looks = (
    element_record e at n ∷ looks.0,
    ap (λ (q : Outcome ⊤). q >>= λ r. mapped (λ rs. element_record e at n ∷ rs) (checked_each C e.size n at r.1)) kept.0 ∙ ap (λ q. mapped (λ rs. element_record e at n ∷ rs) q) looks.1,
    looks.2 ∙ (ap (λ xs. xs ++ looks.0) kept.1 ∙ append_assoc old (element_record e at n ∷ []) looks.0),
  )
  elements_look old now new t u (Err stop.Memory) kept looks = elements_more
  elements_look old now new t u (Err (stop.Fault f)) kept looks =
      ap (λ (q : Outcome ⊤). q >>= λ r. mapped (λ rs. element_record e at n ∷ rs) (checked_each C e.size n at r.1)) kept.0 ∙ ap (λ q. mapped (λ rs. element_record e at n ∷ rs) q) looks

-- the record of a list, kept behind others once its region was looked at
pub list_kept : (w : Source) (e : Head) (at n : ℕ) (old new : List PartRecord) (s t : State) (r : Result ⊤ Stop) → region w.memory e.align at (n * e.size) s ≡ Ok (tt, t)
    → OnOk r (new ≡ old ++ element_record e at n ∷ []) → IfErr r (λ f. f ≡ stop.Memory) → KeepsList w e at n old new s t r
list_kept w e at n old new s t (Ok u) is kept err = (is, kept)
list_kept w e at n old new s t (Err f) is kept err = subst (λ g. Stops g t (region w.memory e.align at (n * e.size) s)) (sym err) tt

pub memory_stops : (looked : Looked) (s t : State) (e : Stop) → e ≡ stop.Memory → HasMore (λ (rs : List PartRecord). rs) s looked → StopsLooking looked s t e
memory_stops looked s t e is more = subst (λ g. StopsLooking looked s t g) (sym is) more

pub all_inside : (r : Result ⊤ Stop) (P : Type 0) → P → OnOk r P
all_inside (Ok u) P p = p
all_inside (Err f) P p = tt
