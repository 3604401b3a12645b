-- What looking at values comes to, part after part.
use Rattle.std.proofs.Common.{◌≡◌, ℕ, zero, suc, ◌+◌, ◌-◌, ◌*◌, ◌%◌, ◌<◌, ◌≤◌, ◌⊎◌, inl, inr, List, [], ◌∷◌, ◌++◌, append_assoc, append-nil, drop, length, map, get_or, refl, sym, ap, subst, ◌∙◌, arith}
use Rattle.std.proofs.lemmas.List.{length-append}
use Rattle.std.specs.Prelude.{Bool, true, false, not, ◌==◌, nat_lt, if◌then◌else◌, Result, Ok, Err, ⊤}
use Rattle.cm_types.specs.Values.{Val}
use Rattle.cm_layout.specs.declared.heads.Head.{Head}
use Rattle.cm_layout.specs.declared.layouts.Leaf.TheVariants as leaf
use Rattle.cm_abi_model.specs.declared.encoding.StringEncoding.{StringEncoding}
use Rattle.cm_abi_model.specs.declared.record.PartRecord.{PartRecord}
use Rattle.cm_abi_load.specs.declared.stop.Stop.{Stop}
use Rattle.cm_abi_load.specs.declared.stop.Stop.TheVariants as stop
use Rattle.cm_abi_load.specs.Making.{HasMore, IsRead, KeepsHandles, Makes, StopsMaking}
use Rattle.cm_abi_load.specs.Outcomes.{Outcome, State, mapped, ◌>>=◌}
use Rattle.cm_abi_load.specs.Reading.{Source, region}
use Rattle.cm_abi_load.specs.Records.{element_record}
use Rattle.cm_abi_load.proofs.HandleLemmas.{keeps_handle, keeps_leaf, keeps_mapped, keeps_text, keeps_then}
use Rattle.cm_abi_programs.specs.Checks.{Check, Checks, CaseChecks, no_checks, check, no_cases, case, char_check, below_check, text_check, list_check, each_check, cases_check, handle_check, part_check}
use Rattle.cm_abi_running.specs.Checking.{Looked, Numbers, all_checked, case_checked, checked, checked_each, elements_checked, followed, in_memory}
use Rattle.cm_abi_programs.specs.Coded.{check_of, checks_from, checks_in}
use Rattle.cm_abi_running.specs.Looks.{Looks, StopsLooking}
use Rattle.cm_abi_programs.specs.declared.checks.Check.{Check as CodedCheck}
use Rattle.cm_lemmas.proofs.Lists.{drop_past, next_element}
use Rattle.cm_abi_load.proofs.HandleLemmas.{by_test, keeps_region}

-- ---- handles that were met stay met

keeps_followed : (s : State) (r : Looked) (next : State → Looked) → KeepsHandles s r → ((u : State) → KeepsHandles u (next u)) → KeepsHandles s (followed r next)
keeps_followed s r next h more =
    keeps_then s r (λ x. mapped (λ rs. x.0 ++ rs) (next x.1)) h (λ x. keeps_mapped (λ rs. x.0 ++ rs) x.1 (next x.1) (more x.1))

pub keeps_row : (C : ℕ → State → Looked) → ((q : ℕ) (u : State) → KeepsHandles u (C q u)) → (d n p : ℕ) (s : State) → KeepsHandles s (checked_each C d n p s)
keeps_row C one d zero p s = omega arith
keeps_row C one d (suc n) p s = keeps_followed s (C p s) (λ u. checked_each C d n (p + d) u) (one p s) (λ u. keeps_row C one d n (p + d) u)

pub keeps_elements : (w : Source) (C : ℕ → State → Looked) → ((q : ℕ) (u : State) → KeepsHandles u (C q u)) → (e : Head) (at n : ℕ) (s : State) → KeepsHandles s (elements_checked w C e at n s)
keeps_elements w C one e at n s =
    keeps_then s (region w.memory e.align at (n * e.size) s) (λ r. mapped (λ rs. element_record e at n ∷ rs) (checked_each C e.size n at r.1))
    (keeps_region w.memory e.align at (n * e.size) s)
    (λ r. keeps_mapped (λ rs. element_record e at n ∷ rs) r.1 (checked_each C e.size n at r.1) (keeps_row C one e.size n at r.1))

module _ (w : Source) (target : StringEncoding) where
  mutual
    pub keeps_one : (f : Numbers) (c : Check) (p : ℕ) (s : State) → KeepsHandles s (checked w target f c p s)
    keeps_one f (char_check at) p s = keeps_mapped (λ v. []) s _ (keeps_leaf leaf.Char (f.number 4 (p + at)) s)
    keeps_one f (below_check at b n) p s = by_test (nat_lt (f.number b (p + at)) n) s _ _ (omega arith) tt
    keeps_one f (text_check at) p s =
        keeps_mapped _ s _ (keeps_text w.memory w.encoding (f.number 4 (p + at)) (f.number 4 (p + at + f.length_behind)) s)
    keeps_one f (list_check at e cs) p s =
        keeps_elements w (all_checked w target (in_memory w.memory) cs) (λ q u. keeps_all (in_memory w.memory) cs q u) e (f.number 4 (p + at)) (f.number 4 (p + at + f.length_behind)) s
    keeps_one f (each_check at d n cs) p s = keeps_row (all_checked w target f cs) (λ q u. keeps_all f cs q u) d n (p + at) s
    keeps_one f (cases_check at b d cs) p s = keeps_case f cs (f.number b (p + at)) (p + at + d) s
    keeps_one f (handle_check at h) p s = keeps_mapped (λ v. []) s _ (keeps_handle w.table h (f.number 4 (p + at)) s)
    keeps_one f (part_check at cs) p s = keeps_all f cs (p + at) s

    pub keeps_all : (f : Numbers) (cs : Checks) (p : ℕ) (s : State) → KeepsHandles s (all_checked w target f cs p s)
    keeps_all f no_checks p s = omega arith
    keeps_all f (check c cs) p s = keeps_followed s (checked w target f c p s) (λ u. all_checked w target f cs p u) (keeps_one f c p s) (λ u. keeps_all f cs p u)

    keeps_case : (f : Numbers) (cs : CaseChecks) (i p : ℕ) (s : State) → KeepsHandles s (case_checked w target f cs i p s)
    keeps_case f no_cases i p s = tt
    keeps_case f (case cs rest) zero p s = keeps_all f cs p s
    keeps_case f (case cs rest) (suc i) p s = keeps_case f rest i p s

-- ---- one part

-- what a reader makes of a part that keeps its records alone
pub looked_of : {V : Type 0} (R : V → List PartRecord) (r : Outcome V) (old new : List PartRecord) (s t : State) (result : Result ⊤ Stop)
    → Makes (λ (m : ⊤) (v : V). ⊤) (λ (old : List PartRecord) rs new. new ≡ old ++ rs) ⊥ R r old new s t result
    → Looks (mapped R r) old new s t result
looked_of R (Ok x) old new s t (Ok made) h = (R x.0, ap (λ u. Ok (R x.0, u)) h.0, h.1.1)
looked_of R (Err e) old new s t (Ok made) h = absurd h
looked_of R r old new s t (Err stop.Memory) (inl can) = absurd can
looked_of R (Ok x) old new s t (Err stop.Memory) (inr more) = more
looked_of R (Err e) old new s t (Err stop.Memory) (inr more) = tt
looked_of R r old new s t (Err (stop.Fault f)) is = ap (λ q. mapped R q) is

-- ---- one part after another

pub record SoFar (all rest : Looked) (old now : List PartRecord) (s t : State) : Type 0 where
  pub told : List PartRecord
  pub kept : now ≡ old ++ told
  pub far : mapped (λ rs. told ++ rs) rest ≡ all
  pub met : length s.handles ≤ length t.handles

mapped_none : (r : Looked) → mapped (λ rs. [] ++ rs) r ≡ r
mapped_none (Ok x) = refl
mapped_none (Err e) = refl

mapped_both : (xs ys : List PartRecord) (r : Looked) → mapped (λ rs. (xs ++ ys) ++ rs) r ≡ mapped (λ rs. xs ++ rs) (mapped (λ rs. ys ++ rs) r)
mapped_both xs ys (Ok x) = ap (λ rs. Ok (rs, x.1)) (append_assoc xs ys x.0)
mapped_both xs ys (Err e) = refl

pub starts : (all : Looked) (old : List PartRecord) (s : State) → SoFar all all old old s s
starts all old s = record { told = []; kept = sym (append-nil old); far = mapped_none all; met = omega arith }

-- how far it came with one part
abbrev pub Came : Looked → List PartRecord → List PartRecord → State → Type 0
Came one now new u = (rs : List PartRecord) × (one ≡ Ok (rs, u)) × (new ≡ now ++ rs)

pub turns : (one : Looked) (next : State → Looked) (all : Looked) (old now new : List PartRecord) (s t u : State)
    → SoFar all (followed one next) old now s t → Came one now new u → KeepsHandles t one → SoFar all (next u) old new s u
turns (Err e) next all old now new s t u so came keeps = absurd (cc (came.1))
turns (Ok x) next all old now new s t u so came keeps =
    let state_is : x.1 ≡ u = ap (λ (q : Looked). state_in q) came.1 in
    let told_is : x.0 ≡ came.0 = ap (λ (q : Looked). told_in q) came.1 in
    record {
      told = so.told ++ x.0;
      kept = came.2 ∙ (ap (λ rs. now ++ rs) (sym told_is) ∙ (ap (λ rs. rs ++ x.0) so.kept ∙ append_assoc old so.told x.0));
      far = mapped_both so.told x.0 (next u) ∙ (ap (λ (z : State). mapped (λ rs. so.told ++ rs) (mapped (λ rs. x.0 ++ rs) (next z))) (sym state_is) ∙ so.far);
      met = omega (arith, so.met, keeps, ap (λ (z : State). length z.handles) state_is);
    }
  where
    state_in : Looked → State
    state_in (Ok y) = y.1
    state_in (Err y) = y.1

    told_in : Looked → List PartRecord
    told_in (Ok y) = y.0
    told_in (Err y) = []

more_behind : (told xs : List PartRecord) (r : Looked) (s t z : State) → length s.handles ≤ length t.handles → length t.handles < length xs + length z.handles → KeepsHandles z r
    → HasMore (λ (rs : List PartRecord). rs) s (mapped (λ rs. told ++ rs) (mapped (λ rs. xs ++ rs) r))
more_behind told xs (Ok y) s t z met more keeps =
    omega (arith, met, more, keeps, length-append told (xs ++ y.0), length-append xs y.0)
more_behind told xs (Err e) s t z met more keeps = tt

more_all : (one : Looked) (next : State → Looked) (told : List PartRecord) (s t : State) → length s.handles ≤ length t.handles → HasMore (λ (rs : List PartRecord). rs) t one
    → ((z : State) → KeepsHandles z (next z)) → HasMore (λ (rs : List PartRecord). rs) s (mapped (λ rs. told ++ rs) (followed one next))
more_all (Ok x) next told s t met more keeps = more_behind told x.0 (next x.1) s t x.1 met more (keeps x.1)
more_all (Err e) next told s t met more keeps = tt

pub halts : (one : Looked) (next : State → Looked) (all : Looked) (old now : List PartRecord) (s t u : State) (e : Stop)
    → SoFar all (followed one next) old now s t → ((z : State) → KeepsHandles z (next z)) → StopsLooking one t u e → StopsLooking all s u e
halts one next all old now s t u stop.Memory so keeps more = subst (λ q. HasMore (λ (rs : List PartRecord). rs) s q) so.far (more_all one next so.told s t so.met more keeps)
halts one next all old now s t u (stop.Fault f) so keeps is = sym so.far ∙ ap (λ q. mapped (λ rs. so.told ++ rs) (followed q next)) is

pub ends : (all rest : Looked) (old now : List PartRecord) (s t : State) → SoFar all rest old now s t → rest ≡ Ok ([], t) → Came all old now t
ends all rest old now s t so none =
    (so.told, sym so.far ∙ (ap (λ q. mapped (λ rs. so.told ++ rs) q) none ∙ ap (λ (rs : List PartRecord). told_then rs) (append-nil so.told)), so.kept)
  where
    told_then : List PartRecord → Looked
    told_then rs = Ok (rs, t)

-- ---- checks in order

module _ (w : Source) (target : StringEncoding) (f : Numbers) where
  checks_next : (cs : List CodedCheck) (i p : ℕ) (x : CodedCheck) (t : State) → i < length cs → x ≡ get_or cs i x
      → all_checked w target f (checks_in (drop i cs)) p t ≡ followed (checked w target f (check_of x) p t) (λ u. all_checked w target f (checks_in (drop (i + 1) cs)) p u)
  checks_next cs i p x t lt is = ap (λ xs. all_checked w target f (checks_from xs) p t) (next_element check_of cs i x lt is)

  pub checks_turn : (cs : List CodedCheck) (i p : ℕ) (x : CodedCheck) (all : Looked) (old now new : List PartRecord) (s t u : State) → i < length cs → x ≡ get_or cs i x
      → SoFar all (all_checked w target f (checks_in (drop i cs)) p t) old now s t → Came (checked w target f (check_of x) p t) now new u
      → SoFar all (all_checked w target f (checks_in (drop (i + 1) cs)) p u) old new s u
  checks_turn cs i p x all old now new s t u lt is so came =
      turns (checked w target f (check_of x) p t) (λ u. all_checked w target f (checks_in (drop (i + 1) cs)) p u) all old now new s t u
      (subst (λ q. SoFar all q old now s t) (checks_next cs i p x t lt is) so) came (keeps_one w target f (check_of x) p t)

  pub checks_halt : (cs : List CodedCheck) (i p : ℕ) (x : CodedCheck) (all : Looked) (old now : List PartRecord) (s t u : State) (e : Stop) → i < length cs → x ≡ get_or cs i x
      → SoFar all (all_checked w target f (checks_in (drop i cs)) p t) old now s t → StopsLooking (checked w target f (check_of x) p t) t u e → StopsLooking all s u e
  checks_halt cs i p x all old now s t u e lt is so stops =
      halts (checked w target f (check_of x) p t) (λ u. all_checked w target f (checks_in (drop (i + 1) cs)) p u) all old now s t u e
      (subst (λ q. SoFar all q old now s t) (checks_next cs i p x t lt is) so) (λ z. keeps_all w target f (checks_in (drop (i + 1) cs)) p z) stops

  pub checks_end : (cs : List CodedCheck) (i p : ℕ) (all : Looked) (old now : List PartRecord) (s t : State) → length cs ≤ i
      → SoFar all (all_checked w target f (checks_in (drop i cs)) p t) old now s t → Came all old now t
  checks_end cs i p all old now s t past so =
      ends all (all_checked w target f (checks_in (drop i cs)) p t) old now s t so (ap (λ xs. all_checked w target f (checks_in xs) p t) (drop_past cs i past))

-- ---- values in a row

module _ (C : ℕ → State → Looked) (d : ℕ) (keeps : (q : ℕ) (u : State) → KeepsHandles u (C q u)) where
  row_next : (count i p : ℕ) (t : State) → i < count → checked_each C d (count - i) p t ≡ followed (C p t) (λ u. checked_each C d (count - (i + 1)) (p + d) u)
  row_next count i p t lt = let e : count - i ≡ suc (count - (i + 1)) = omega (arith, lt) in ap (λ n. checked_each C d n p t) e

  pub row_turn : (count i p q : ℕ) (all : Looked) (old now new : List PartRecord) (s t u : State) → i < count → q ≡ p + d
      → SoFar all (checked_each C d (count - i) p t) old now s t → Came (C p t) now new u
      → SoFar all (checked_each C d (count - (i + 1)) q u) old new s u
  row_turn count i p q all old now new s t u lt on so came =
      subst (λ k. SoFar all (checked_each C d (count - (i + 1)) k u) old new s u) (sym on)
      (turns (C p t) (λ u. checked_each C d (count - (i + 1)) (p + d) u) all old now new s t u (subst (λ q. SoFar all q old now s t) (row_next count i p t lt) so) came (keeps p t))

  pub row_halt : (count i p : ℕ) (all : Looked) (old now : List PartRecord) (s t u : State) (e : Stop) → i < count
      → SoFar all (checked_each C d (count - i) p t) old now s t → StopsLooking (C p t) t u e → StopsLooking all s u e
  row_halt count i p all old now s t u e lt so stops =
      halts (C p t) (λ u. checked_each C d (count - (i + 1)) (p + d) u) all old now s t u e (subst (λ q. SoFar all q old now s t) (row_next count i p t lt) so)
      (λ z. keeps_row C keeps d (count - (i + 1)) (p + d) z) stops

  pub row_end : (count i p : ℕ) (all : Looked) (old now : List PartRecord) (s t : State) → count ≤ i
      → SoFar all (checked_each C d (count - i) p t) old now s t → Came all old now t
  row_end count i p all old now s t past so =
      let e : count - i ≡ 0 = omega (arith, past) in
      ends all (checked_each C d (count - i) p t) old now s t so (ap (λ n. checked_each C d n p t) e)

  pub row_starts : (count p : ℕ) (old : List PartRecord) (s : State) → SoFar (checked_each C d count p s) (checked_each C d (count - 0) p s) old old s s
  row_starts count p old s =
      let e : count - 0 ≡ count = omega arith in
      subst (λ n. SoFar (checked_each C d count p s) (checked_each C d n p s) old old s s) (sym e) (starts (checked_each C d count p s) old s)
