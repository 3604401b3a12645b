-- The laws of things behind commas, and of reading steps one after the other.
use Rattle.std.proofs.Common.{◌≡◌, ℕ, zero, suc, ◌<◌, ◌≤◌, List, [], ◌∷◌, ◌++◌, length, Option, Some, None, Result, Ok, Err, refl, sym, ap, ◌∙◌, append_assoc, append-nil, arith, inl, inr}
use Rattle.cm_wit_tokens.specs.declared.operator.Operator.{Operator}
use Rattle.cm_wit_tokens.specs.declared.operator.Operator.TheVariants as operator
use Rattle.cm_wit_tokens.specs.declared.token.Token.{Token}
use Rattle.cm_wit_tokens.specs.declared.token.Form.{Form}
use Rattle.cm_wit_tokens.specs.Forms.{is_operator}
use Rattle.cm_wit_tokens.specs.declared.fault.WitReason.{WitReason}
use Rattle.cm_wit_tokens.specs.Faults.{Fault, and_then}
use Rattle.cm_wit_tokens.specs.Grammar.{first, Grammar, done, ◌>>=◌, token, token_reads, passes, chosen, with_front, after_step, steps_in, steps}
use Rattle.cm_wit_tokens.specs.declared.keyword.Keyword.{Keyword}
use Rattle.cm_wit_tokens.specs.Parts.{expect, expect_word}
use Rattle.cm_wit_tokens.specs.Exact.{Shortens}
use Rattle.cm_wit_tokens.specs.Lists.{next_item, items, and_more, last_comma, at_most, items_and, is_member, next_member, members}
use Rattle.cm_wit_tokens.proofs.Tools.{then_ok, length_behind}
use Rattle.cm_wit_tokens.proofs.Laws.{Lawful, done_lawful, bind_lawful, token_lawful, chosen_lawful, if_ok}
use Rattle.cm_wit_tokens.proofs.StepLaws.{Moves, steps_lawful}
use Rattle.cm_lemmas.proofs.Equations.{ok_is}
use Rattle.cm_lemmas.proofs.Results.{ok_of}

pub no_longer : {A : Type 0} (g : Grammar A) → Lawful g → (ts : List Token) (x : A) (rest : List Token) → g.reads ts ≡ Ok (x, rest) → length rest ≤ length ts
no_longer g l ts x rest e = let t = l.takes ts x rest e in omega (arith, length_behind ts t.front rest t.parts)

pub token_shortens : {K : Type 0} (table : Form → Result K WitReason) (ts : List Token) (k : K) (rest : List Token) → token_reads table ts ≡ Ok (k, rest) → length ts ≡ suc (length rest)
token_shortens table ts k rest e =
    let t = (token_lawful table).takes ts k rest e in
    omega (arith, length_behind ts t.front rest t.parts, ap length t.spells.1)

-- what is read behind a token leaves fewer tokens
pub behind_token : {K A : Type 0} (table : Form → Result K WitReason) (h : K → Grammar A) → ((k : K) → Lawful (h k)) → (ts : List Token) (x : A) (rest : List Token) → (token table >>= h).reads ts ≡ Ok (x, rest) → length rest < length ts
behind_token {K} table h l ts x rest e =
    let q = then_ok (token_reads table ts) (λ (p : K × List Token). (h p.0).reads p.1) (x, rest) e in
    omega (arith, token_shortens table ts q.0.0 q.0.1 q.1, no_longer (h q.0.0) (l q.0.0) q.0.1 x rest q.2)

pub expect_lawful : (o : Operator) → Lawful (expect o)
expect_lawful o = token_lawful _

pub expect_word_lawful : (k : Keyword) → Lawful (expect_word k)
expect_word_lawful k = token_lawful _

-- ---- things behind commas

some_lawful : {A : Type 0} (g : Grammar A) → Lawful g → Lawful (g >>= λ x. done (Some x))
some_lawful g l = bind_lawful g (λ x. done (Some x)) l (λ x. done_lawful (Some x))

further_lawful : {A : Type 0} (closing : Operator) (g : Grammar A) → Lawful g → Lawful (chosen (is_operator closing) (done None) (g >>= λ x. done (Some x)))
further_lawful closing g l = chosen_lawful _ _ _ (done_lawful None) (some_lawful g l)

pub next_item_lawful : {A : Type 0} (closing : Operator) (g : Grammar A) → Lawful g → Lawful (next_item closing g)
next_item_lawful closing g l = chosen_lawful _ _ _ (bind_lawful _ _ (expect_lawful operator.Comma) (λ _. further_lawful closing g l)) (done_lawful None)

abbrev none_of : (A : Type 0) → Option A
none_of A = None

none_is_no_some : (A : Type 0) (ts rest : List Token) (x : A) → ok_of {A = Option A × List Token} Fault (none_of A, ts) ≡ Ok (Some x, rest) → ⊥
none_is_no_some A ts rest x e =
    let q = ok_is {A = Option A × List Token} Fault (none_of A, ts) (Some x, rest) e in
    let h : none_of A ≡ Some x = ap (λ (z : Option A × List Token). z.0) q in
    absurd cc

pub next_item_moves : {A : Type 0} (closing : Operator) (g : Grammar A) → Lawful g → Moves (next_item closing g)
next_item_moves {A} closing g l ts x rest e =
    elim (if_ok (passes (is_operator operator.Comma) (first ts)) ((expect operator.Comma >>= λ _. chosen (is_operator closing) (done None) (g >>= λ x. done (Some x))).reads ts) (Ok (None, ts)) (Ok (Some x, rest)) e) [
      | inl p ↦ behind_token _ _ (λ _. further_lawful closing g l) ts (Some x) rest p.1
      | inr p ↦ absurd (none_is_no_some A ts rest x p.1)
    ]

pub items_lawful : {A : Type 0} (closing : Operator) (g : Grammar A) → Lawful g → Lawful (items closing g)
items_lawful closing g l = bind_lawful _ _ l (λ x. bind_lawful _ _ (steps_lawful (next_item closing g) (next_item_lawful closing g l) (next_item_moves closing g l)) (λ xs. done_lawful (x ∷ xs)))

-- ---- so many at most

pub last_comma_lawful : Lawful last_comma
last_comma_lawful = chosen_lawful _ _ _ (expect_lawful operator.Comma) (done_lawful tt)

and_more_lawful : {A : Type 0} (more : Grammar (List A)) → Lawful more → (o : Option A) → Lawful (and_more more o)
and_more_lawful more l None = done_lawful []
and_more_lawful more l (Some x) = bind_lawful _ _ l (λ xs. done_lawful (x ∷ xs))

pub at_most_lawful : {A : Type 0} (n : ℕ) (closing : Operator) (g : Grammar A) → Lawful g → Lawful (at_most n closing g)
unfolding at_most
at_most_lawful zero closing g l = bind_lawful _ _ last_comma_lawful (λ _. done_lawful [])
at_most_lawful (suc n) closing g l = bind_lawful _ _ (next_item_lawful closing g l) (λ o. and_more_lawful (at_most n closing g) (at_most_lawful n closing g l) o)

pub items_and_lawful : {A : Type 0} (n : ℕ) (closing : Operator) (g : Grammar A) → Lawful g → Lawful (items_and n closing g)
items_and_lawful n closing g l = bind_lawful _ _ l (λ x. bind_lawful _ _ (at_most_lawful n closing g l) (λ xs. done_lawful (x ∷ xs)))

-- ---- things up to a `}`

pub next_member_lawful : {A : Type 0} (g : Grammar A) → Lawful g → Lawful (next_member g)
next_member_lawful g l = chosen_lawful _ _ _ (some_lawful g l) (done_lawful None)

abbrev some_of : {A : Type 0} → A → Option A
some_of x = Some x

some_shortens : {A : Type 0} (g : Grammar A) → Shortens g → (ts : List Token) (x : A) (rest : List Token) → (g >>= λ y. done (Some y)).reads ts ≡ Ok (Some x, rest) → length rest < length ts
some_shortens {A} g l ts x rest e =
    let q = then_ok (g.reads ts) (λ (p : A × List Token). ok_of Fault (some_of p.0, p.1)) (Some x, rest) e in
    let k = ok_is {A = Option A × List Token} Fault (Some q.0.0, q.0.1) (Some x, rest) q.2 in
    omega (arith, l ts q.0.0 q.0.1 q.1, ap (λ (z : Option A × List Token). length z.1) k)

pub next_member_moves : {A : Type 0} (g : Grammar A) → Shortens g → Moves (next_member g)
next_member_moves {A} g l ts x rest e =
    elim (if_ok (passes is_member (first ts)) ((g >>= λ y. done (Some y)).reads ts) (Ok (None, ts)) (Ok (Some x, rest)) e) [
      | inl p ↦ some_shortens g l ts x rest p.1
      | inr p ↦ absurd (none_is_no_some A ts rest x p.1)
    ]

pub members_lawful : {A : Type 0} (g : Grammar A) → Lawful g → Shortens g → Lawful (members g)
members_lawful g l s = steps_lawful (next_member g) (next_member_lawful g l) (next_member_moves g s)

-- what begins with a token of a table takes one
pub token_shortens_all : {K A : Type 0} (table : Form → Result K WitReason) (h : K → Grammar A) → ((k : K) → Lawful (h k)) → Shortens (token table >>= h)
token_shortens_all table h l ts x rest e = behind_token table h l ts x rest e

-- ---- reading steps one after the other: these were read, and the rest makes all

pub record StepsGo {A : Type 0} (g : Grammar (Option A)) (xs : List A) (rest : List Token) (all : Result (List A × List Token) Fault) : Type 0 where
  pub turns : ℕ
  pub enough : length rest < turns
  pub same : with_front xs (steps_in g turns rest) ≡ all

pub steps_begin : {A : Type 0} (g : Grammar (Option A)) (xs : List A) (ts : List Token) → StepsGo g xs ts (with_front xs ((steps g).reads ts))
steps_begin g xs ts = record { turns = suc (length ts); enough = omega arith; same = refl }

pub turn : {A : Type 0} (g : Grammar (Option A)) (turns : ℕ) (rest : List Token) → length rest < turns → (fewer : ℕ) × (turns ≡ suc fewer) × (steps_in g turns rest ≡ and_then (g.reads rest) (λ p. after_step (steps_in g fewer) p.0 p.1))
unfolding steps_in
turn g zero rest lt = absurd (omega (arith, lt))
turn g (suc fewer) rest lt = (fewer, refl, refl)

pub steps_end : {A : Type 0} (g : Grammar (Option A)) (xs : List A) (rest after : List Token) (all : Result (List A × List Token) Fault) → StepsGo g xs rest all → g.reads rest ≡ Ok (None, after) → all ≡ Ok (xs, after)
steps_end g xs rest after all s e =
    let t = turn g s.turns rest s.enough in
    sym s.same ∙ (ap (with_front xs) t.2 ∙ rw e (rw (append-nil xs) refl))

pub steps_fail : {A : Type 0} (g : Grammar (Option A)) (xs : List A) (rest : List Token) (f : Fault) (all : Result (List A × List Token) Fault) → StepsGo g xs rest all → g.reads rest ≡ Err f → all ≡ Err f
steps_fail g xs rest f all s e =
    let t = turn g s.turns rest s.enough in
    sym s.same ∙ (ap (with_front xs) t.2 ∙ rw e refl)

front_front : {A : Type 0} (xs : List A) (x : A) (read : Result (List A × List Token) Fault) → with_front xs (with_front (x ∷ []) read) ≡ with_front (xs ++ x ∷ []) read
front_front {A} xs x (Ok p) = ap (λ (ys : List A). ok_of Fault (ys, p.1)) (sym (append_assoc xs (x ∷ []) p.0))
front_front xs x (Err f) = refl

pub steps_go_on : {A : Type 0} (g : Grammar (Option A)) → Moves g → (xs : List A) (x : A) (rest after : List Token) (all : Result (List A × List Token) Fault) → StepsGo g xs rest all → g.reads rest ≡ Ok (Some x, after) → StepsGo g (xs ++ x ∷ []) after all
steps_go_on g moves xs x rest after all s e =
    let t = turn g s.turns rest s.enough in
    record {
      turns = t.0;
      enough = omega (arith, moves rest x after e, s.enough, t.1);
      same = sym (front_front xs x (steps_in g t.0 after)) ∙ (sym (ap (with_front xs) t.2 ∙ rw e refl) ∙ s.same);
    }
