-- What looking at one thing after another comes to.
use Rattle.std.proofs.Common.{◌≡◌, ℕ, zero, suc, ◌+◌, ◌*◌, List, [], ◌∷◌, ◌++◌, append_assoc, append-nil, refl, sym, ap, ◌∙◌}
use Rattle.std.specs.Prelude.{Ok, Err, ⊤}
use Rattle.cm_types.specs.Values.{Val, Vals, val, elements}
use Rattle.cm_layout.specs.declared.heads.Head.{Head}
use Rattle.cm_abi_model.specs.declared.record.PartRecord.{PartRecord}
use Rattle.cm_abi_load.specs.Outcomes.{Outcome, State, mapped, ◌>>=◌}
use Rattle.cm_abi_load.specs.Reading.{Source, read_each, read_elements, region}
use Rattle.cm_abi_load.specs.Records.{element_record, records_each, records_of_list}
use Rattle.cm_abi_running.specs.Checking.{Looked, checked_each, elements_checked, followed}

pub followed_none : (r : Looked) → followed r (λ u. Ok ([], u)) ≡ r
followed_none (Ok x) = ap (λ rs. Ok (rs, x.1)) (append-nil x.0)
followed_none (Err e) = refl

mapped_none : (r : Looked) → mapped (λ rs. [] ++ rs) r ≡ r
mapped_none (Ok x) = refl
mapped_none (Err e) = refl

pub none_followed : (s : State) (f : State → Looked) → followed (Ok ([], s)) f ≡ f s
none_followed s f = mapped_none (f s)

pub followed_same : (r : Looked) (f g : State → Looked) → ((u : State) → f u ≡ g u) → followed r f ≡ followed r g
followed_same (Ok x) f g same = ap (λ q. mapped (λ rs. x.0 ++ rs) q) (same x.1)
followed_same (Err e) f g same = refl

mapped_both : (xs ys : List PartRecord) (r : Looked) → mapped (λ rs. (xs ++ ys) ++ rs) r ≡ mapped (λ rs. xs ++ rs) (mapped (λ rs. ys ++ rs) r)
mapped_both xs ys (Ok x) = ap (λ rs. Ok (rs, x.1)) (append_assoc xs ys x.0)
mapped_both xs ys (Err e) = refl

mapped_followed : (xs : List PartRecord) (r : Looked) (g : State → Looked) → followed (mapped (λ rs. xs ++ rs) r) g ≡ mapped (λ rs. xs ++ rs) (followed r g)
mapped_followed xs (Ok y) g = mapped_both xs y.0 (g y.1)
mapped_followed xs (Err e) g = refl

pub followed_twice : (r : Looked) (f g : State → Looked) → followed (followed r f) g ≡ followed r (λ u. followed (f u) g)
followed_twice (Ok x) f g = mapped_followed x.0 (f x.1) g
followed_twice (Err e) f g = refl

pub mapped_through : {A B : Type 0} (F : B → List PartRecord) (J : A → B) (r : Outcome A) → mapped (λ a. F (J a)) r ≡ mapped F (mapped J r)
mapped_through F J (Ok x) = refl
mapped_through F J (Err e) = refl

-- of one value after another, each has its records
pub in_turn : {A B C : Type 0} (F : A → List PartRecord) (G : B → List PartRecord) (H : C → List PartRecord) (J : A → B → C)
    → ((a : A) (b : B) → H (J a b) ≡ F a ++ G b) → (r : Outcome A) (next : State → Outcome B)
    → followed (mapped F r) (λ u. mapped G (next u)) ≡ mapped H (r >>= λ x. mapped (λ b. J x.0 b) (next x.1))
in_turn F G H J both (Err e) next = refl
in_turn {A} {B} {C} F G H J both (Ok x) next = rest (next x.1)
  where
    rest : (q : Outcome B) → mapped (λ rs. F x.0 ++ rs) (mapped G q) ≡ mapped H (mapped (λ b. J x.0 b) q)
    rest (Ok y) = ap (λ rs. Ok (rs, y.1)) (sym (both x.0 y.0))
    rest (Err e) = refl

-- ---- values in a row

module _ (C : ℕ → State → Looked) (R : ℕ → Val → List PartRecord) (read : ℕ → State → Outcome Val)
    (same : (p : ℕ) (s : State) → C p s ≡ mapped (R p) (read p s)) where
  pub each_looked : (d n p : ℕ) (s : State) → checked_each C d n p s ≡ mapped (records_each R d p) (read_each read d n p s)
  each_looked d zero p s = refl
  each_looked d (suc n) p s =
      ap (λ r. followed r (λ u. checked_each C d n (p + d) u)) (same p s)
      ∙ followed_same (mapped (R p) (read p s)) (λ u. checked_each C d n (p + d) u) (λ u. mapped (records_each R d (p + d)) (read_each read d n (p + d) u)) (λ u. each_looked d n (p + d) u)
      ∙ in_turn (R p) (records_each R d (p + d)) (records_each R d p) val (λ v vs. refl) (read p s) (λ u. read_each read d n (p + d) u)

  pub elements_looked : (w : Source) (e : Head) (at n : ℕ) (s : State)
      → elements_checked w C e at n s ≡ mapped (records_of_list R e at n) (mapped elements (read_elements read w.memory e at n s))
  unfolding read_elements
  elements_looked w e at n s = go (region w.memory e.align at (n * e.size) s)
    where
      push : (q : Outcome Vals) → mapped (λ rs. element_record e at n ∷ rs) (mapped (records_each R e.size at) q) ≡ mapped (records_of_list R e at n) (mapped elements q)
      push (Ok x) = refl
      push (Err e') = refl

      go : (q : Outcome ⊤)
          → (q >>= λ r. mapped (λ rs. element_record e at n ∷ rs) (checked_each C e.size n at r.1))
          ≡ mapped (records_of_list R e at n) (mapped elements (q >>= λ r. read_each read e.size n at r.1))
      go (Ok r) = ap (λ q. mapped (λ rs. element_record e at n ∷ rs) q) (each_looked e.size n at r.1) ∙ push (read_each read e.size n at r.1)
      go (Err e') = refl
