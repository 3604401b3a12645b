-- Wants that hold, one after the other.
use Rattle.std.proofs.Common.{◌≡◌, ◌⊎◌, ◌↔◌, Bool, true, false, IsTrue, Option, None, if◌then◌else◌, ℕ, zero, suc, List, [], ◌∷◌, refl, length, take, slice_get, Some, Result, Ok, Err, sym, subst, inl, inr}
use Rattle.std.specs.Prelude.{IfErr, IfOk}
use Rattle.std.specs.List.{AllByRecursion}
use Rattle.cm_validate_model.specs.Spaces.{Spaces}
use Rattle.cm_shims_plain.specs.declared.wants.Want.{Want}
use Rattle.cm_shims.specs.declared.fault.FitFault.{FitFault}
use Rattle.cm_shims.specs.declared.fault.FitReason.{FitReason}
use Rattle.cm_shims.specs.declared.fault.FitReason.TheVariants as reasons
use Rattle.cm_shims.specs.Fitting.{AllHold, Holds, IsFirstUnmet}
use Rattle.cm_shims.specs.Judging.{IsJudged, Judges}
use Rattle.cm_shims.specs.Reasons.{reason_of}
use Rattle.cm_lemmas.proofs.Options.{none_some, some_is}

pub all_next : {A : Type 0} (P : A → Type 0) (xs : List A) (i m : ℕ) (x : A) → m ≡ suc i → slice_get xs i ≡ Some x → AllByRecursion P (take i xs) → P x → AllByRecursion P (take m xs)
all_next P [] i m x e at h p = none_some x at
all_next P (y ∷ xs) zero m x e at h p = rw e (subst P (sym (some_is y x at)) p, tt)
all_next P (y ∷ xs) (suc i) m x e at h p = rw e (h.0, all_next P xs i (suc i) x refl at h.1 p)

pub all_hold : {A : Type 0} (P : A → Type 0) (xs : List A) (i : ℕ) (x : A) → slice_get xs i ≡ Some x → AllByRecursion P xs → P x
all_hold P [] i x at h = none_some x at
all_hold P (y ∷ xs) zero x at h = subst P (some_is y x at) h.0
all_hold P (y ∷ xs) (suc i) x at h = all_hold P xs i x at h.1

pub unmet : (s : Spaces) (ws : List Want) (f : FitFault) (w : Want) → slice_get ws f.want ≡ Some w → AllHold s (take f.want ws) → Judges (Holds s w) (reason_of w) (Some f.reason) → IsFirstUnmet s ws f
unmet s ws f w at h j = record { want = w; there = at; before = h; unmet = j.0; reason = j.1 }

not_so : IsTrue false → ⊥
not_so h = absurd cc

-- what is told of a fact that was looked at
pub told : (b : Bool) (fact : Type 0) (reason r : FitReason) (o : Option FitReason) → r ≡ reason → o ≡ (if b then None else Some r) → IsTrue b ↔ fact → Judges fact reason o
told true fact reason r o e is h = subst (Judges fact reason) (sym is) (h.0 refl)
told false fact reason r o e is h = subst (Judges fact reason) (sym is) (λ x. not_so (h.1 x), e)

-- ---- what the judgement says

pub judged_held : (s : Spaces) (ws : List Want) (r : Result (Unit {0}) FitFault) → IsJudged s ws r → IfOk r (λ _. AllHold s ws)
judged_held s ws (Ok done) h = h
judged_held s ws (Err f) h = tt

refuted : (s : Spaces) (ws : List Want) (f : FitFault) → IsFirstUnmet s ws f → AllHold s ws → ⊥
refuted s ws f u h = u.unmet (all_hold (Holds s) ws f.want u.want u.there h)

pub judged_complete : (s : Spaces) (ws : List Want) (r : Result (Unit {0}) FitFault) → IsJudged s ws r → AllHold s ws → IfErr r (λ f. f.reason ≡ reasons.Memory)
judged_complete s ws (Ok done) h a = tt
judged_complete s ws (Err f) (inl m) a = m.0
judged_complete s ws (Err f) (inr u) a = absurd (refuted s ws f u a)

pub judged_fault : (s : Spaces) (ws : List Want) (r : Result (Unit {0}) FitFault) → IsJudged s ws r → IfErr r (λ f. ((f.reason ≡ reasons.Memory) × AllHold s (take f.want ws)) ⊎ IsFirstUnmet s ws f)
judged_fault s ws (Ok done) h = tt
judged_fault s ws (Err f) h = h

pub no_wants : {A : Type 0} (P : A → Type 0) (xs : List A) → length xs ≡ 0 → AllByRecursion P xs
no_wants P [] e = tt
no_wants P (x ∷ xs) e = absurd cc
