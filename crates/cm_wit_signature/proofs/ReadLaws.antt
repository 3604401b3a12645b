-- What each value is that a grammar reads.
use Rattle.std.proofs.Common.{◌≡◌, ℕ, zero, suc, ◌<◌, ◌≤◌, Bool, true, false, if◌then◌else◌, List, [], ◌∷◌, length, Option, Some, None, Result, Ok, Err, refl, ap, subst, arith}
use Rattle.std.specs.List.{AllByRecursion}
use Rattle.std.specs.Option.{IfSome}
use Rattle.cm_wit_tokens.specs.declared.operator.Operator.{Operator}
use Rattle.cm_wit_tokens.specs.declared.operator.Operator.TheVariants as operator
use Rattle.cm_wit_tokens.specs.declared.token.Token.{Token}
use Rattle.cm_wit_tokens.specs.declared.token.Form.{Form}
use Rattle.cm_wit_tokens.specs.declared.fault.WitReason.{WitReason}
use Rattle.cm_wit_tokens.specs.Faults.{Fault}
use Rattle.cm_wit_tokens.specs.Grammar.{first, Grammar, done, ◌>>=◌, taken, token_reads, token, passes, chosen, with_front, after_step, steps_in, steps}
use Rattle.cm_wit_tokens.specs.Lists.{next_item, items, and_more, last_comma, at_most, items_and, next_member, members}
use Rattle.cm_wit_tokens.specs.Parts.{expect}
use Rattle.cm_wit_tokens.proofs.ReadLaws.{ok_is}
use Rattle.cm_wit_tokens.proofs.Tools.{then_ok}

-- Of each value that the grammar reads the fact holds.
pub record Only {A : Type 0} (P : A → Type 0) (g : Grammar A) : Type 0 where
  pub read : (ts : List Token) (x : A) (rest : List Token) → g.reads ts ≡ Ok (x, rest) → P x

pub anything : {A : Type 0} (g : Grammar A) → Only (λ (x : A). Unit {0}) g
anything g = record { read = λ ts x rest e. tt {0} }

pub done_only : {A : Type 0} (P : A → Type 0) (x : A) → P x → Only P (done x)
done_only {A} P x p = record { read = λ ts y rest e. subst P (ap (λ (q : A × List Token). q.0) (ok_is (x, ts) (y, rest) e)) p }

pub bind_only : {A B : Type 0} (Q : A → Type 0) (P : B → Type 0) (g : Grammar A) (h : A → Grammar B) → Only Q g → ((x : A) → Q x → Only P (h x)) → Only P (g >>= h)
bind_only {A} {B} Q P g h l m = record {
  read = λ ts y rest e.
      let q = then_ok (g.reads ts) (λ (x : A × List Token). (h x.0).reads x.1) (y, rest) e in
      (m q.0.0 (l.read ts q.0.0 q.0.1 q.1)).read q.0.1 y rest q.2;
}

-- what is read first says nothing
pub next_only : {A B : Type 0} (P : B → Type 0) (g : Grammar A) (h : A → Grammar B) → ((x : A) → Only P (h x)) → Only P (g >>= h)
next_only {A} P g h m = bind_only (λ (x : A). Unit {0}) P g h (anything g) (λ x u. m x)

taken_only : {K : Type 0} (P : K → Type 0) (t : Token) (ts : List Token) (o : Result K WitReason) → ((k : K) → o ≡ Ok k → P k) → (k : K) (rest : List Token) → taken t ts o ≡ Ok (k, rest) → P k
taken_only {K} P t ts (Ok j) h k rest e = subst P (ap (λ (q : K × List Token). q.0) (ok_is (j, ts) (k, rest) e)) (h j refl)
taken_only P t ts (Err r) h k rest e = absurd cc

pub token_only : {K : Type 0} (P : K → Type 0) (table : Form → Result K WitReason) → ((f : Form) (k : K) → table f ≡ Ok k → P k) → Only P (token table)
token_only {K} P table h = record { read = by }
  where
    by : (ts : List Token) (k : K) (rest : List Token) → token_reads table ts ≡ Ok (k, rest) → P k
    by [] k rest e = absurd cc
    by (t ∷ ts) k rest e = taken_only P t ts (table t.form) (h t.form) k rest e

pub chosen_only : {A : Type 0} (P : A → Type 0) (test : Form → Bool) (g h : Grammar A) → Only P g → Only P h → Only P (chosen test g h)
chosen_only {A} P test g h l m = record { read = λ ts x rest e. by (passes test (first ts)) ts x rest e }
  where
    by : (b : Bool) (ts : List Token) (x : A) (rest : List Token) → (if b then g.reads ts else h.reads ts) ≡ Ok (x, rest) → P x
    by true ts x rest e = l.read ts x rest e
    by false ts x rest e = m.read ts x rest e

-- ---- steps

front_only : {A : Type 0} (P : A → Type 0) (x : A) (read : Result (List A × List Token) Fault) → P x → ((ys : List A) (rest : List Token) → read ≡ Ok (ys, rest) → AllByRecursion P ys) → (xs : List A) (rest : List Token) → with_front (x ∷ []) read ≡ Ok (xs, rest) → AllByRecursion P xs
front_only {A} P x (Ok p) h all xs rest e = subst (AllByRecursion P) (ap (λ (q : List A × List Token). q.0) (ok_is (x ∷ p.0, p.1) (xs, rest) e)) (h, all p.0 p.1 refl)
front_only P x (Err f) h all xs rest e = absurd cc

after_only : {A : Type 0} (P : A → Type 0) (more : List Token → Result (List A × List Token) Fault) → ((ts : List Token) (ys : List A) (rest : List Token) → more ts ≡ Ok (ys, rest) → AllByRecursion P ys) → (o : Option A) → IfSome o P → (ts : List Token) (xs : List A) (rest : List Token) → after_step more o ts ≡ Ok (xs, rest) → AllByRecursion P xs
after_only {A} P more all None h ts xs rest e = subst (AllByRecursion P) (ap (λ (q : List A × List Token). q.0) (ok_is ([], ts) (xs, rest) e)) (tt {0})
after_only P more all (Some x) h ts xs rest e = front_only P x (more ts) h (all ts) xs rest e

steps_in_only : {A : Type 0} (P : A → Type 0) (g : Grammar (Option A)) → Only (λ o. IfSome o P) g → (turns : ℕ) (ts : List Token) (xs : List A) (rest : List Token) → steps_in g turns ts ≡ Ok (xs, rest) → AllByRecursion P xs
unfolding steps_in
steps_in_only P g l zero ts xs rest e = absurd cc
steps_in_only {A} P g l (suc turns) ts xs rest e =
    let q = then_ok (g.reads ts) (λ (p : Option A × List Token). after_step (steps_in g turns) p.0 p.1) (xs, rest) e in
    after_only P (steps_in g turns) (steps_in_only P g l turns) q.0.0 (l.read ts q.0.0 q.0.1 q.1) q.0.1 xs rest q.2

pub steps_only : {A : Type 0} (P : A → Type 0) (g : Grammar (Option A)) → Only (λ o. IfSome o P) g → Only (AllByRecursion P) (steps g)
steps_only P g l = record { read = λ ts xs rest e. steps_in_only P g l (suc (length ts)) ts xs rest e }

-- ---- lists

item_only : {A : Type 0} (P : A → Type 0) (closing : Operator) (g : Grammar A) → Only P g → Only (λ o. IfSome o P) (next_item closing g)
item_only {A} P closing g l =
    let R : Option A → Type 0 = λ o. IfSome o P in
    chosen_only R _ _ _
    (next_only R (expect operator.Comma) _ (λ _. chosen_only R _ _ _ (done_only R None (tt {0})) (bind_only P R g _ l (λ x p. done_only R (Some x) p))))
    (done_only R None (tt {0}))

-- there is one or more, and of each the fact holds
abbrev pub SomeAll : {A : Type 0} → (A → Type 0) → List A → Type 0
SomeAll P xs = (0 < length xs) × AllByRecursion P xs

pub items_only : {A : Type 0} (P : A → Type 0) (closing : Operator) (g : Grammar A) → Only P g → Only (SomeAll P) (items closing g)
items_only {A} P closing g l =
    bind_only P (SomeAll P) g _ l (λ x p. bind_only (AllByRecursion P) (SomeAll P) (steps (next_item closing g)) _ (steps_only P _ (item_only P closing g l))
    (λ xs ps. done_only (SomeAll P) (x ∷ xs) (omega arith, (p, ps))))

abbrev pub HasAtMost : {A : Type 0} → ℕ → List A → Type 0
HasAtMost n xs = length xs ≤ n

and_more_only : {A : Type 0} (n : ℕ) (more : Grammar (List A)) → Only (HasAtMost n) more → (o : Option A) → Only (HasAtMost (suc n)) (and_more more o)
and_more_only {A} n more l None = done_only (HasAtMost (suc n)) [] (omega arith)
and_more_only {A} n more l (Some x) = bind_only (HasAtMost n) (HasAtMost (suc n)) more _ l (λ xs few. done_only (HasAtMost (suc n)) (x ∷ xs) (omega (arith, few)))

at_most_only : {A : Type 0} (n : ℕ) (closing : Operator) (g : Grammar A) → Only (HasAtMost n) (at_most n closing g)
unfolding at_most
at_most_only {A} zero closing g = next_only (HasAtMost 0) last_comma _ (λ _. done_only (HasAtMost 0) [] (omega arith))
at_most_only {A} (suc n) closing g = next_only (HasAtMost (suc n)) (next_item closing g) _ (λ o. and_more_only n (at_most n closing g) (at_most_only n closing g) o)

-- there is one or more, and so many at most
abbrev pub SomeFew : {A : Type 0} → ℕ → List A → Type 0
SomeFew n xs = (0 < length xs) × (length xs ≤ n)

pub few_only : {A : Type 0} (n : ℕ) (closing : Operator) (g : Grammar A) → Only (SomeFew (suc n)) (items_and n closing g)
few_only {A} n closing g =
    next_only (SomeFew (suc n)) g _ (λ x. bind_only (HasAtMost n) (SomeFew (suc n)) (at_most n closing g) _ (at_most_only n closing g)
    (λ xs few. done_only (SomeFew (suc n)) (x ∷ xs) (omega arith, omega (arith, few))))

pub members_only : {A : Type 0} (P : A → Type 0) (g : Grammar A) → Only P g → Only (AllByRecursion P) (members g)
members_only {A} P g l =
    let R : Option A → Type 0 = λ o. IfSome o P in
    steps_only P (next_member g) (chosen_only R _ _ _ (bind_only P R g _ l (λ x p. done_only R (Some x) p)) (done_only R None (tt {0})))
