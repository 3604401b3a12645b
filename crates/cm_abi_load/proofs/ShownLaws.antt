-- What is read is what the bytes show.
use Rattle.std.proofs.Common.{◌≡◌, ℕ, zero, suc, ◌+◌, ◌-◌, ◌*◌, ◌%◌, ◌≤◌, ◌==◌, Bool, true, false, not, List, ◌∷◌, length, Ok, Err, refl, sym, ap, subst, arith, nat_lt}
use Rattle.std.specs.Prelude.{if◌then◌else◌, ⊤}
use Rattle.std.proofs.lemmas.Bool.{ltb-false}
use Rattle.cm_types.specs.Values.{Val, Vals, IsScalarValue, no_vals, val, scalar, count_of}
use Rattle.cm_types.specs.TypedValues.{is_scalar_value}
use Rattle.cm_layout.specs.declared.heads.Head.{Head}
use Rattle.cm_abi_model.specs.declared.fault.AbiFault.{AbiFault}
use Rattle.cm_abi_model.specs.declared.fault.AbiFault.TheVariants as fault
use Rattle.cm_abi_model.specs.Shows.{ShowEach, ShowsElements}
use Rattle.cm_handles.specs.Handles.{Handles}
use Rattle.cm_abi_model.specs.Taken.{Met, content, met_each}
use Rattle.cm_abi_model.specs.Texts.{IsAligned}
use Rattle.cm_abi_load.specs.Meeting.{Meets}
use Rattle.cm_abi_load.specs.Outcomes.{Outcome, State, mapped, ◌>>=◌}
use Rattle.cm_abi_load.specs.Reading.{read_each, read_elements, region}
use Rattle.cm_abi_load.proofs.MeetLaws.{meets_both, meets_content, meets_none}
use Rattle.cm_abi_model.proofs.TextsLaws.{aligned}
use Rattle.cm_types.proofs.TypedValueLaws.{scalar_sound}

-- ---- outcomes

abbrev pub read_ok : {A : Type 0} → A → State → Outcome A
read_ok a s = Ok (a, s)

abbrev pub read_err : {A : Type 0} → AbiFault → State → Outcome A
read_err e s = Err (e, s)

abbrev paired : {A : Type 0} → A → State → A × State
paired a s = (a, s)

-- what holds of a value and a state holds of those that they are
pub moved : {A : Type 0} (P : A → State → Type 0) (x y : A) (s t : State) → read_ok x s ≡ read_ok y t → P x s → P y t
moved {A} P x y s t e h =
    let same : paired x s ≡ paired y t = cc in
    subst (λ u. P u t) (ap (λ (z : A × State). z.0) same) (subst (P x) (ap (λ (z : A × State). z.1) same) h)

pub bind_ok : {A B : Type 0} (r : Outcome A) (f : A × State → Outcome B) (y : B × State) → (r >>= f) ≡ Ok y → (x : A × State) × (r ≡ Ok x) × (f x ≡ Ok y)
bind_ok (Ok x) f y e = (x, refl, e)
bind_ok (Err z) f y e = absurd (cc)

pub mapped_ok : {A B : Type 0} (f : A → B) (r : Outcome A) (y : B × State) → mapped f r ≡ Ok y → (x : A) × (r ≡ Ok (x, y.1)) × (f x ≡ y.0)
mapped_ok f (Ok x) y e = let same : (f x.0, x.1) ≡ y = cc in (x.0, ap (λ z. Ok (x.0, z)) (ap (λ (z : _ × State). z.1) same), ap (λ (z : _ × State). z.0) same)
mapped_ok f (Err z) y e = absurd (cc)

-- ---- regions

pub record Region (memory : List ℕ) (align at size : ℕ) (s after : State) : Type 0 where
  pub aligned : IsAligned align at
  pub inside : at + size ≤ length memory
  pub room : size ≤ s.left
  pub counted : record s { left = s.left - size } ≡ after

pub region_tests : (a b c : Bool) (x y z : AbiFault × State) (v r : ⊤ × State)
    → (if not a then Err x else (if b then Err y else (if c then Err z else Ok v))) ≡ Ok r → (a ≡ true) × (b ≡ false) × (c ≡ false) × (v.1 ≡ r.1)
region_tests true false false x y z v r e = let same : v ≡ r = cc in (refl, refl, refl, ap (λ (w : ⊤ × State). w.1) same)
region_tests true false true x y z v r e = absurd (cc)
region_tests true true c x y z v r e = absurd (cc)
region_tests false b c x y z v r e = absurd (cc)

pub region_ok : (memory : List ℕ) (align at size : ℕ) (s : State) (r : ⊤ × State) → region memory align at size s ≡ Ok r → Region memory align at size s r.1
unfolding region
region_ok memory align at size s r e =
    let tests = region_tests (at % align == 0) (nat_lt (length memory) (at + size)) (nat_lt s.left size) _ _ _ _ r e in
    record {
      aligned = aligned align at tests.0;
      inside = ltb-false (length memory) (at + size) tests.1;
      room = ltb-false s.left size tests.2;
      counted = tests.3;
    }

-- ---- values in a row

-- what is read is shown, and what is met is told
abbrev pub IsTold : (ℕ → State → Outcome Val) → (ℕ → Val → Type 0) → Handles → (ℕ → Val → List Met) → Type 0
IsTold R S T M = (p : ℕ) (s t : State) (v : Val) → R p s ≡ Ok (v, t) → S p v × Meets T s t (M p v)

pub each_shown : (R : ℕ → State → Outcome Val) (S : ℕ → Val → Type 0) (T : Handles) (M : ℕ → Val → List Met) → IsTold R S T M
    → (size n p : ℕ) (s t : State) (vs : Vals) → read_each R size n p s ≡ Ok (vs, t)
    → (count_of vs ≡ n) × ShowEach S size p vs × Meets T s t (met_each M size p vs)
each_shown R S T M one size zero p s t vs e =
    moved (λ us a. (count_of us ≡ 0) × ShowEach S size p us × Meets T s a (met_each M size p us)) no_vals vs s t e (refl, tt, meets_none T s)
each_shown R S T M one size (suc n) p s t vs e =
    let first = bind_ok (R p s) (λ r. mapped (λ us. val r.0 us) (read_each R size n (p + size) r.1)) (vs, t) e in
    let rest = mapped_ok (λ us. val first.0.0 us) (read_each R size n (p + size) first.0.1) (vs, t) first.2 in
    let below = each_shown R S T M one size n (p + size) first.0.1 t rest.0 rest.1 in
    let here = one p s first.0.1 first.0.0 first.1 in
    subst (λ us. (count_of us ≡ suc n) × ShowEach S size p us × Meets T s t (met_each M size p us)) rest.2
    (omega (arith, below.0), (here.0, below.1), meets_both T s first.0.1 t (M p first.0.0) (met_each M size (p + size) rest.0) here.1 below.2)

pub elements_shown : (R : ℕ → State → Outcome Val) (S : ℕ → Val → Type 0) (T : Handles) (M : ℕ → Val → List Met) → IsTold R S T M
    → (memory : List ℕ) (h : Head) (at n : ℕ) (s t : State) (vs : Vals) → read_elements R memory h at n s ≡ Ok (vs, t)
    → ShowsElements S memory h.align h.size at n vs × Meets T s t (content (count_of vs * h.size) ∷ met_each M h.size at vs)
unfolding read_elements
elements_shown R S T M one memory h at n s t vs e =
    let first = bind_ok (region memory h.align at (n * h.size) s) (λ r. read_each R h.size n at r.1) (vs, t) e in
    let there = region_ok memory h.align at (n * h.size) s first.0 first.1 in
    let each = each_shown R S T M one h.size n at first.0.1 t vs first.2 in
    let met = meets_content T s t (n * h.size) (met_each M h.size at vs) there.room (subst (λ a. Meets T a t (met_each M h.size at vs)) (sym there.counted) each.2) in (
      record { aligned = there.aligned; inside = there.inside; count = each.0; each = each.1 },
      subst (λ m. Meets T s t (content (m * h.size) ∷ met_each M h.size at vs)) (sym each.0) met,
    )

-- ---- chars

pub char_is : (P : Val → State → Type 0) (b : Bool) (c : ℕ) (s t : State) (v : Val) → (if b then read_ok (scalar c) s else read_err fault.BadChar s) ≡ read_ok v t
    → (b ≡ true → P (scalar c) s) → P v t
char_is P true c s t v e h = moved P (scalar c) v s t e (h refl)
char_is P false c s t v e h = absurd (cc)

pub char_ok : (P : Val → State → Type 0) (c : ℕ) (s t : State) (v : Val) → (if is_scalar_value c then read_ok (scalar c) s else read_err fault.BadChar s) ≡ read_ok v t
    → (IsScalarValue c → P (scalar c) s) → P v t
char_ok P c s t v e h = char_is P (is_scalar_value c) c s t v e (λ is. h (scalar_sound c is))
