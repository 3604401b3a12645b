-- Single tokens and lists are read again.
use Rattle.std.proofs.Common.{◌≡◌, ℕ, zero, suc, ◌<◌, Bool, true, false, ◌==◌, if◌then◌else◌, List, [], ◌∷◌, ◌++◌, length, Option, Some, None, Result, Ok, Err, refl, sym, ap, subst, ◌∙◌, append_assoc, arith}
use Rattle.std.specs.List.{flat_map}
use Rattle.std.proofs.lemmas.Slice.Eq.{bytes_eq-Decides}
use Rattle.cm_wit_tokens.specs.declared.keyword.Keyword.{Keyword}
use Rattle.cm_wit_tokens.specs.declared.operator.Operator.{Operator}
use Rattle.cm_wit_tokens.specs.declared.token.Form.{Form}
use Rattle.cm_wit_tokens.specs.declared.token.Form.TheVariants as form
use Rattle.cm_wit_tokens.specs.declared.token.Token.{Token}
use Rattle.cm_wit_tokens.specs.Forms.{is_operator, is_keyword}
use Rattle.cm_wit_tokens.specs.Keywords.{spelling}
use Rattle.cm_wit_tokens.specs.Operators.{operator_spelling}
use Rattle.cm_wit_tokens.specs.declared.fault.WitReason.{WitReason}
use Rattle.cm_wit_tokens.specs.declared.fault.WitReason.TheVariants as reason
use Rattle.cm_wit_tokens.specs.Faults.{Fault}
use Rattle.cm_wit_tokens.specs.Grammar.{Grammar, token, with_front, after_step, steps_in, steps}
use Rattle.cm_wit_tokens.specs.Parts.{expect, expect_word, identifier, identifier_of, length_of, version_of}
use Rattle.cm_wit_tokens.specs.Reading.{next_form}
use Rattle.cm_wit_package.specs.TreeTokens.{mark, keyword, name_tokens}
use Rattle.cm_wit_package.proofs.Lexing.{forms}
use Rattle.cm_wit_package.specs.Words.{words}
use Rattle.cm_wit_package.proofs.Chains.{pair_is, pair_of, Behind, split, behind_length, first_form, first_form_append, behind_first, words_append, Canon, Law, table_law}
use Rattle.cm_wit_tokens.proofs.FaultsLaws.{ok_of}
use Rattle.cm_wit_tokens.proofs.SpellingLaws.{one_operator, one_keyword}
use Rattle.cm_wit_tokens.proofs.Tools.{then_from_ok, then_ok}
use Rattle.cm_wit_tokens.proofs.ListLaws.{turn}

-- ---- operators and keywords are the same where their texts are

pub operator_is : (o : Operator) (f : Form) → is_operator o f ≡ true → f ≡ form.Operator o
operator_is o (form.Operator p) h =
    let same = (bytes_eq-Decides (operator_spelling p) (operator_spelling o)).0 h in
    ap (λ (q : Operator). form.Operator q) (one_operator p o same)
operator_is o (form.Keyword k) h = absurd cc
operator_is o (form.Identifier w) h = absurd cc
operator_is o (form.Version v) h = absurd cc
operator_is o (form.Integer n) h = absurd cc

pub keyword_is : (k : Keyword) (f : Form) → is_keyword k f ≡ true → f ≡ form.Keyword k
keyword_is k (form.Keyword l) h =
    let same = (bytes_eq-Decides (spelling l) (spelling k)).0 h in
    ap (λ (q : Keyword). form.Keyword q) (one_keyword l k same)
keyword_is k (form.Operator o) h = absurd cc
keyword_is k (form.Identifier w) h = absurd cc
keyword_is k (form.Version v) h = absurd cc
keyword_is k (form.Integer n) h = absurd cc

-- ---- single tokens

pub if_ok : (b : Bool) (r : WitReason) (k : Unit {0}) → (if b then Ok tt else Err r) ≡ Ok k → b ≡ true
if_ok true r k e = refl
if_ok false r k e = absurd cc

pub expect_law : (o : Operator) (S M : Option Form → Bool) → S (Some (form.Operator o)) ≡ true → Law (expect o) (λ _. mark o) S M
expect_law o S M s = table_law _ _ S M (λ f k e. let q = operator_is o f (if_ok (is_operator o f) _ k e) in (ap (λ (g : Form). g ∷ []) (sym q), rw q s))

pub word_law : (k : Keyword) (S M : Option Form → Bool) → S (Some (form.Keyword k)) ≡ true → Law (expect_word k) (λ _. keyword k) S M
word_law k S M s = table_law _ _ S M (λ f u e. let q = keyword_is k f (if_ok (is_keyword k f) _ u e) in (ap (λ (g : Form). g ∷ []) (sym q), rw q s))

identifier_is : (f : Form) (n : List ℕ) → identifier_of f ≡ Ok n → name_tokens n ≡ f ∷ []
identifier_is (form.Identifier w) n e = let q : w ≡ n = cc in ap name_tokens (sym q)
identifier_is (form.Keyword k) n e = absurd cc
identifier_is (form.Operator o) n e = absurd cc
identifier_is (form.Version v) n e = absurd cc
identifier_is (form.Integer i) n e = absurd cc

-- whether a word begins there
abbrev pub begins_word : Option Form → Bool
begins_word None = false
begins_word (Some (form.Identifier w)) = true
begins_word (Some (form.Keyword k)) = true
begins_word (Some (form.Operator o)) = false
begins_word (Some (form.Version v)) = false
begins_word (Some (form.Integer n)) = false

abbrev pub any : Option Form → Bool
any n = true

identifier_starts : (S : Option Form → Bool) → ((w : List ℕ) → S (Some (form.Identifier w)) ≡ true) → (f : Form) (n : List ℕ) → identifier_of f ≡ Ok n → S (Some f) ≡ true
identifier_starts S h (form.Identifier w) n e = h w
identifier_starts S h (form.Keyword k) n e = absurd cc
identifier_starts S h (form.Operator o) n e = absurd cc
identifier_starts S h (form.Version v) n e = absurd cc
identifier_starts S h (form.Integer i) n e = absurd cc

pub name_law : (S M : Option Form → Bool) → ((w : List ℕ) → S (Some (form.Identifier w)) ≡ true) → Law identifier name_tokens S M
name_law S M h = table_law _ _ S M (λ f n e. (identifier_is f n e, identifier_starts S h f n e))

pub any_name : (M : Option Form → Bool) → Law identifier name_tokens any M
any_name M = name_law any M (λ w. refl)

pub weaken : {A : Type 0} {g : Grammar A} {q : A → List Form} {S R : Option Form → Bool} (T : Option Form → Bool) → ((n : Option Form) → S n ≡ true → T n ≡ true) → Law g q S R → Law g q T R
weaken T imp l = record {
  at = λ x ts rest e. let c = l.at x ts rest e in record { again = c.again; same = c.same; starts = λ next r. imp (first_form _ next) (c.starts next r) };
}

pub anyhow : {A : Type 0} {g : Grammar A} {q : A → List Form} {S R : Option Form → Bool} → Law g q S R → Law g q any R
anyhow l = weaken any (λ n h. refl) l

length_is : (f : Form) (n : ℕ) → length_of f ≡ Ok n → form.Integer n ∷ [] ≡ f ∷ []
length_is (form.Integer i) n e = length_by (i == 0) i n e
  where
    length_by : (b : Bool) (i n : ℕ) → (if b then Err reason.Unexpected else Ok i) ≡ Ok n → form.Integer n ∷ [] ≡ form.Integer i ∷ []
    length_by true i n e = absurd cc
    length_by false i n e = let q : i ≡ n = cc in ap (λ (m : ℕ). form.Integer m ∷ []) (sym q)
length_is (form.Identifier w) n e = absurd cc
length_is (form.Keyword k) n e = absurd cc
length_is (form.Operator o) n e = absurd cc
length_is (form.Version v) n e = absurd cc

pub length_law : (M : Option Form → Bool) → Law (token length_of) (λ n. form.Integer n ∷ []) any M
length_law M = table_law _ _ any M (λ f n e. (length_is f n e, refl))

version_is : (f : Form) (v : List ℕ) → version_of f ≡ Ok v → form.Version v ∷ [] ≡ f ∷ []
version_is (form.Version w) n e = let q : w ≡ n = cc in ap (λ (v : List ℕ). form.Version v ∷ []) (sym q)
version_is (form.Identifier w) n e = absurd cc
version_is (form.Keyword k) n e = absurd cc
version_is (form.Operator o) n e = absurd cc
version_is (form.Integer i) n e = absurd cc

pub version_law : (M : Option Form → Bool) → Law (token version_of) (λ v. form.Version v ∷ []) any M
version_law M = table_law _ _ any M (λ f v e. (version_is f v e, refl))

-- ---- steps one after the other

-- Each step that gives a value is read again, before the next step or before what ends the steps.
pub record StepLaw {A : Type 0} (s : Grammar (Option A)) (p : A → List Form) (M R : Option Form → Bool) : Type 0 where
  pub none : (ts rest : List Token) → s.reads ts ≡ Ok (None, rest) → words (forms ts) ≡ words (forms rest)
  pub some : (x : A) (ts rest : List Token) → s.reads ts ≡ Ok (Some x, rest) → Canon s (Some x) ts rest (p x) M M
  pub long : (x : A) (ts rest : List Token) → s.reads ts ≡ Ok (Some x, rest) → 0 < length (p x)
  pub stop : (all : List Token) → R (next_form all) ≡ true → s.reads all ≡ Ok (None, all)
  pub calm : (next : Option Form) → R next ≡ true → M next ≡ true

pub record Run {A : Type 0} (s : Grammar (Option A)) (xs : List A) (ts rest : List Token) (fs : List Form) (M R : Option Form → Bool) : Type 0 where
  pub again : (turns : ℕ) (all after : List Token) → length all < turns → Behind fs all after → R (next_form after) ≡ true → steps_in s turns all ≡ Ok (xs, after)
  pub same : words (forms ts) ≡ words fs ++ words (forms rest)
  pub starts : (next : Option Form) → R next ≡ true → M (first_form fs next) ≡ true

abbrev Steps : {A : Type 0} → Grammar (Option A) → (A → List Form) → (Option Form → Bool) → (Option Form → Bool) → (List Token → Result (List A × List Token) Fault) → Type 0
Steps {A} s p M R more = (xs : List A) (ts rest : List Token) → more ts ≡ Ok (xs, rest) → Run s xs ts rest (flat_map p xs) M R

module _ {A : Type 0} (s : Grammar (Option A)) (p : A → List Form) (M R : Option Form → Bool) (l : StepLaw s p M R) where
  ended : (ts mid rest : List Token) (xs : List A) → s.reads ts ≡ Ok (None, mid) → ok_of {A = List A × List Token} ([], mid) ≡ ok_of (xs, rest) → Run s xs ts rest (flat_map p xs) M R
  ended ts mid rest xs e q =
      let k = pair_is {A = List A} [] xs mid rest q in
      subst (λ (ys : List A). Run s ys ts rest (flat_map p ys) M R) k.0 (record {
        again = λ turns all after lt b r.
            let t = turn s turns all lt in
            let here : R (next_form all) ≡ true = rw b r in
            t.2 ∙ then_from_ok (s.reads all) (λ (u : Option A × List Token). after_step (steps_in s t.0) u.0 u.1) (None, all) (Ok ([], after)) (l.stop all here) (pair_of {A = List A} [] [] all after refl b);
        same = l.none ts mid e ∙ ap (λ (us : List Token). words (forms us)) k.1;
        starts = l.calm;
      })

  goes_on : (x : A) (ts mid rest : List Token) (xs : List A) (more : List Token → Result (List A × List Token) Fault) → Steps s p M R more → s.reads ts ≡ Ok (Some x, mid) → with_front (x ∷ []) (more mid) ≡ Ok (xs, rest) → Run s xs ts rest (flat_map p xs) M R
  goes_on x ts mid rest xs more ih e q =
      let a = then_ok (more mid) (λ (u : List A × List Token). ok_of {A = List A × List Token} (x ∷ u.0, u.1)) (xs, rest) q in
      let k = pair_is {A = List A} (x ∷ a.0.0) xs a.0.1 rest a.2 in
      let c = l.some x ts mid e in
      let d = ih a.0.0 mid a.0.1 a.1 in
      subst (λ (ys : List A). Run s ys ts rest (flat_map p ys) M R) k.0 (subst (λ (us : List Token). Run s (x ∷ a.0.0) ts us (flat_map p (x ∷ a.0.0)) M R) k.1 (record {
        again = λ turns all after lt b r.
            let t = turn s turns all lt in
            let h = split (p x) (flat_map p a.0.0) all after b in
            let m : M (next_form h.0) ≡ true = rw (behind_first (flat_map p a.0.0) h.0 after h.2) (d.starts (next_form after) r) in
            let fewer : length h.0 < t.0 = omega (arith, lt, t.1, l.long x ts mid e, behind_length (p x) all h.0 h.1) in
            t.2 ∙ then_from_ok (s.reads all) (λ (u : Option A × List Token). after_step (steps_in s t.0) u.0 u.1) (Some x, h.0) (Ok (x ∷ a.0.0, after)) (c.again all h.0 h.1 m)
            (then_from_ok (steps_in s t.0 h.0) (λ (u : List A × List Token). ok_of {A = List A × List Token} (x ∷ u.0, u.1)) (a.0.0, after) (Ok (x ∷ a.0.0, after)) (d.again t.0 h.0 after fewer h.2 r) refl);
        same = c.same ∙ (ap (λ (z : List Form). words (p x) ++ z) d.same ∙ (sym (append_assoc (words (p x)) (words (flat_map p a.0.0)) (words (forms a.0.1))) ∙ ap (λ (z : List Form). z ++ words (forms a.0.1)) (sym (words_append (p x) (flat_map p a.0.0)))));
        starts = λ next r. rw (first_form_append (p x) (flat_map p a.0.0) next) (c.starts (first_form (flat_map p a.0.0) next) (d.starts next r));
      }))

  step_by : (o : Option A) (ts mid rest : List Token) (xs : List A) (more : List Token → Result (List A × List Token) Fault) → Steps s p M R more → s.reads ts ≡ Ok (o, mid) → after_step more o mid ≡ Ok (xs, rest) → Run s xs ts rest (flat_map p xs) M R
  step_by None ts mid rest xs more ih e q = ended ts mid rest xs e q
  step_by (Some x) ts mid rest xs more ih e q = goes_on x ts mid rest xs more ih e q

  runs : (turns : ℕ) → Steps s p M R (steps_in s turns)
  unfolding steps_in
  runs zero xs ts rest e = absurd cc
  runs (suc turns) xs ts rest e =
      let a = then_ok (s.reads ts) (λ (u : Option A × List Token). after_step (steps_in s turns) u.0 u.1) (xs, rest) e in
      step_by a.0.0 ts a.0.1 rest xs (steps_in s turns) (runs turns) a.1 a.2

  pub steps_law : Law (steps s) (flat_map p) M R
  steps_law = record {
    at = λ xs ts rest e.
        let r = runs (suc (length ts)) xs ts rest e in
        record { again = λ all after b q. r.again (suc (length all)) all after (omega arith) b q; same = r.same; starts = r.starts };
  }
