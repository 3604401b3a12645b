-- What is read once is read again from the tokens that its tree is printed as: step by step.
use Rattle.std.proofs.Common.{◌≡◌, ℕ, ◌+◌, Bool, true, false, ◌&&◌, not, if◌then◌else◌, List, [], ◌∷◌, ◌++◌, length, Option, Some, None, Result, Ok, Err, refl, sym, ap, subst, ◌∙◌, append_assoc, arith}
use Rattle.cm_wit_tokens.specs.declared.token.Form.{Form}
use Rattle.cm_wit_tokens.specs.declared.token.Token.{Token}
use Rattle.cm_wit_tokens.specs.declared.fault.WitReason.{WitReason}
use Rattle.cm_wit_tokens.specs.Grammar.{first, Grammar, done, ◌>>=◌, taken, token_reads, token, passes, chosen}
use Rattle.cm_wit_tokens.specs.Reading.{next_form}
use Rattle.cm_wit_package.specs.Words.{is_word, words}
use Rattle.cm_wit_package.proofs.Lexing.{forms}
use Rattle.cm_lemmas.proofs.Bools.{both_true}
use Rattle.cm_wit_tokens.proofs.ReadLaws.{ok_is}
use Rattle.cm_wit_tokens.proofs.FaultsLaws.{ok_of}
use Rattle.cm_wit_tokens.proofs.Tools.{then_from_ok, then_ok}

-- ---- results

pub pair_is : {A : Type 0} (x y : A) (ts rest : List Token) → ok_of {A = A × List Token} (x, ts) ≡ ok_of (y, rest) → (x ≡ y) × (ts ≡ rest)
pair_is {A} x y ts rest e = let p = ok_is {A = A × List Token} (x, ts) (y, rest) e in (ap (λ (z : A × List Token). z.0) p, ap (λ (z : A × List Token). z.1) p)

pub pair_of : {A : Type 0} (x y : A) (ts rest : List Token) → x ≡ y → ts ≡ rest → ok_of {A = A × List Token} (x, ts) ≡ ok_of (y, rest)
pair_of {A} x y ts rest e q = ap (λ (z : A). ok_of {A = A × List Token} (z, ts)) e ∙ ap (λ (us : List Token). ok_of {A = A × List Token} (y, us)) q

-- ---- tokens of these forms, whatever their places

abbrev pub Behind : List Form → List Token → List Token → Type 0
Behind [] ts rest = ts ≡ rest
Behind (f ∷ fs) ts rest = (left : ℕ) × (more : List Token) × (ts ≡ record { left = left; form = f } ∷ more) × Behind fs more rest

pub split : (fs gs : List Form) (ts rest : List Token) → Behind (fs ++ gs) ts rest → (mid : List Token) × Behind fs ts mid × Behind gs mid rest
split [] gs ts rest h = (ts, refl, h)
split (f ∷ fs) gs ts rest h = let s = split fs gs h.1 rest h.3 in (s.0, (h.0, h.1, h.2, s.1), s.2)

pub behind_all : (ts : List Token) → Behind (forms ts) ts []
behind_all [] = refl
behind_all (t ∷ ts) = (t.left, ts, refl, behind_all ts)

pub behind_length : (fs : List Form) (ts rest : List Token) → Behind fs ts rest → length ts ≡ length fs + length rest
behind_length [] ts rest h = omega (arith, ap length h)
behind_length (f ∷ fs) ts rest h = omega (arith, ap length h.2, behind_length fs h.1 rest h.3)

abbrev pub first_form : List Form → Option Form → Option Form
first_form [] next = next
first_form (f ∷ fs) next = Some f

pub first_form_append : (a b : List Form) (next : Option Form) → first_form (a ++ b) next ≡ first_form a (first_form b next)
first_form_append [] b next = refl
first_form_append (f ∷ a) b next = refl

pub behind_first : (fs : List Form) (ts rest : List Token) → Behind fs ts rest → next_form ts ≡ first_form fs (next_form rest)
behind_first [] ts rest h = ap next_form h
behind_first (f ∷ fs) ts rest h = ap next_form h.2

-- ---- tokens but for operators

words_by : (keeps : Bool) (f : Form) (xs ys : List Form) → (if keeps then f ∷ (xs ++ ys) else (xs ++ ys)) ≡ (if keeps then f ∷ xs else xs) ++ ys
words_by true f xs ys = refl
words_by false f xs ys = refl

pub words_append : (a b : List Form) → words (a ++ b) ≡ words a ++ words b
words_append [] b = refl
words_append (f ∷ a) b = ap (λ (z : List Form). if is_word f then f ∷ z else z) (words_append a b) ∙ words_by (is_word f) f (words a) (words b)

-- ---- what was read, and how it is printed

abbrev pub Test : Type 0
Test = Option Form → Bool

-- x was read from ts, before rest. It is read from every tokens of the forms fs, where what stands
-- behind them passes R; these have the names and numbers that were read; and what they begin with
-- passes S.
pub record Canon {A : Type 0} (g : Grammar A) (x : A) (ts rest : List Token) (fs : List Form) (S R : Option Form → Bool) : Type 0 where
  pub again : (all after : List Token) → Behind fs all after → R (next_form after) ≡ true → g.reads all ≡ Ok (x, after)
  pub same : words (forms ts) ≡ words fs ++ words (forms rest)
  pub starts : (next : Option Form) → R next ≡ true → S (first_form fs next) ≡ true

-- Whatever is read is read again from the forms q.
pub record Law {A : Type 0} (g : Grammar A) (q : A → List Form) (S R : Option Form → Bool) : Type 0 where
  pub at : (x : A) (ts rest : List Token) → g.reads ts ≡ Ok (x, rest) → Canon g x ts rest (q x) S R

pub record Part {B : Type 0} (k : Grammar B) (y : B) (ts rest : List Token) (front : List Form → List Form) (all : List Form) (S R : Option Form → Bool) : Type 0 where
  pub behind : List Form
  pub parts : all ≡ front behind
  pub canon : Canon k y ts rest behind S R

-- The same of what stands behind a front part of the forms p.
pub record Chain {B : Type 0} (k : Grammar B) (front : List Form → List Form) (p : B → List Form) (S R : Option Form → Bool) : Type 0 where
  pub at : (y : B) (ts rest : List Token) → k.reads ts ≡ Ok (y, rest) → Part k y ts rest front (p y) S R

pub law : {A : Type 0} {g : Grammar A} {p : A → List Form} {S R : Option Form → Bool} → Chain g (λ z. z) p S R → Law g p S R
law {A} {g} {p} {S} {R} c = record {
  at = λ x ts rest e. let d = c.at x ts rest e in subst (λ (fs : List Form). Canon g x ts rest fs S R) (sym d.parts) d.canon;
}

pub tail : {A : Type 0} {g : Grammar A} {q p : A → List Form} {front : List Form → List Form} {S R : Option Form → Bool} → Law g q S R → ((x : A) → p x ≡ front (q x)) → Chain g front p S R
tail {A} {g} {q} l is = record { at = λ x ts rest e. record { behind = q x; parts = is x; canon = l.at x ts rest e } }

pub mapped : {A B : Type 0} {g : Grammar A} {q : A → List Form} {p : B → List Form} {front : List Form → List Form} {S R : Option Form → Bool} (f : A → B) → Chain g front q S R → ((x : A) → p (f x) ≡ q x) → Chain (g >>= λ x. done (f x)) front p S R
mapped {A} {B} {g} {q} {p} {front} {S} {R} f c is = record {
  at = λ y ts rest e.
      let a = then_ok (g.reads ts) (λ (u : A × List Token). ok_of {A = B × List Token} (f u.0, u.1)) (y, rest) e in
      let k = pair_is (f a.0.0) y a.0.1 rest a.2 in
      let m = c.at a.0.0 ts a.0.1 a.1 in
      record {
        behind = m.behind;
        parts = ap p (sym k.0) ∙ (is a.0.0 ∙ m.parts);
        canon = record {
          again = λ all after b r. then_from_ok (g.reads all) (λ (u : A × List Token). ok_of {A = B × List Token} (f u.0, u.1)) (a.0.0, after) (Ok (y, after)) (m.canon.again all after b r) (pair_of (f a.0.0) y after after k.0 refl);
          same = m.canon.same ∙ ap (λ (us : List Token). words m.behind ++ words (forms us)) k.1;
          starts = m.canon.starts;
        };
      };
}

pub bind : {A B : Type 0} {g : Grammar A} {h : A → Grammar B} {q : A → List Form} {p : B → List Form} {front : List Form → List Form} {S R : Option Form → Bool} (M : Option Form → Bool) → Law g q S M → ((x : A) → Chain (h x) (λ z. front (q x ++ z)) p M R) → Chain (g >>= h) front p S R
bind {A} {B} {g} {h} {q} {p} {front} {S} {R} M l t = record {
  at = λ y ts rest e.
      let a = then_ok (g.reads ts) (λ (u : A × List Token). (h u.0).reads u.1) (y, rest) e in
      let c = l.at a.0.0 ts a.0.1 a.1 in
      let d = (t a.0.0).at y a.0.1 rest a.2 in
      record {
        behind = q a.0.0 ++ d.behind;
        parts = d.parts;
        canon = record {
          again = λ all after b r.
              let s = split (q a.0.0) d.behind all after b in
              let m : M (next_form s.0) ≡ true = rw (behind_first d.behind s.0 after s.2) (d.canon.starts (next_form after) r) in
              then_from_ok (g.reads all) (λ (u : A × List Token). (h u.0).reads u.1) (a.0.0, s.0) (Ok (y, after)) (c.again all s.0 s.1 m) (d.canon.again s.0 after s.2 r);
          same = c.same ∙ (ap (λ (z : List Form). words (q a.0.0) ++ z) d.canon.same ∙ (sym (append_assoc (words (q a.0.0)) (words d.behind) (words (forms rest))) ∙ ap (λ (z : List Form). z ++ words (forms rest)) (sym (words_append (q a.0.0) d.behind))));
          starts = λ next r. rw (first_form_append (q a.0.0) d.behind next) (c.starts (first_form d.behind next) (d.canon.starts next r));
        };
      };
}

pub end : {B : Type 0} {p : B → List Form} {front : List Form → List Form} {S R : Option Form → Bool} (x : B) → ((next : Option Form) → R next ≡ true → S next ≡ true) → p x ≡ front [] → Chain (done x) front p S R
end {B} {p} {front} {S} {R} x calm is = record {
  at = λ y ts rest e.
      let k = pair_is x y ts rest e in
      record {
        behind = [];
        parts = ap p (sym k.0) ∙ is;
        canon = record {
          again = λ all after b r. pair_of x y all after k.0 b;
          same = ap (λ (us : List Token). words (forms us)) k.1;
          starts = λ next r. calm next r;
        };
      };
}

-- ---- choices

abbrev pub at : (Form → Bool) → Option Form → Bool
at test None = false
at test (Some f) = test f

pub passes_at : (test : Form → Bool) (ts : List Token) → passes test (first ts) ≡ at test (next_form ts)
passes_at test [] = refl
passes_at test (t ∷ ts) = refl

pub is_not : (a : Bool) → not a ≡ true → a ≡ false
is_not true h = absurd cc
is_not false h = refl

-- first by the test, then as the branch says
abbrev pub passing : (Form → Bool) → (Option Form → Bool) → Option Form → Bool
passing test S n = at test n && S n

abbrev pub failing : (Form → Bool) → (Option Form → Bool) → Option Form → Bool
failing test S n = not (at test n) && S n

pub if_true : {A : Type 0} (b : Bool) (x y : A) → b ≡ true → (if b then x else y) ≡ x
if_true b x y e = rw e refl

pub if_false : {A : Type 0} (b : Bool) (x y : A) → b ≡ false → (if b then x else y) ≡ y
if_false b x y e = rw e refl

pub then_canon : {A : Type 0} {g h : Grammar A} {y : A} {ts rest : List Token} {fs : List Form} {S R : Option Form → Bool} (test : Form → Bool) → Canon g y ts rest fs (passing test S) R → Canon (chosen test g h) y ts rest fs S R
then_canon {A} {g} {h} {y} {ts} {rest} {fs} {S} {R} test c = record {
  again = λ all after b r.
      let s = both_true _ _ (c.starts (next_form after) r) in
      let goes : passes test (first all) ≡ true = passes_at test all ∙ rw (behind_first fs all after b) s.0 in
      if_true (passes test (first all)) (g.reads all) (h.reads all) goes ∙ c.again all after b r;
  same = c.same;
  starts = λ next r. (both_true _ _ (c.starts next r)).1;
}

pub else_canon : {A : Type 0} {g h : Grammar A} {y : A} {ts rest : List Token} {fs : List Form} {S R : Option Form → Bool} (test : Form → Bool) → Canon h y ts rest fs (failing test S) R → Canon (chosen test g h) y ts rest fs S R
else_canon {A} {g} {h} {y} {ts} {rest} {fs} {S} {R} test c = record {
  again = λ all after b r.
      let s = both_true _ _ (c.starts (next_form after) r) in
      let stays : passes test (first all) ≡ false = passes_at test all ∙ rw (behind_first fs all after b) (is_not _ s.0) in
      if_false (passes test (first all)) (g.reads all) (h.reads all) stays ∙ c.again all after b r;
  same = c.same;
  starts = λ next r. (both_true _ _ (c.starts next r)).1;
}

module _ {A : Type 0} {g h : Grammar A} {front : List Form → List Form} {p : A → List Form} {S R : Option Form → Bool} (test : Form → Bool) (c : Chain g front p (passing test S) R) (d : Chain h front p (failing test S) R) where
  pick_by : (b : Bool) (y : A) (ts rest : List Token) → (if b then g.reads ts else h.reads ts) ≡ Ok (y, rest) → Part (chosen test g h) y ts rest front (p y) S R
  pick_by true y ts rest e = let m = c.at y ts rest e in record { behind = m.behind; parts = m.parts; canon = then_canon test m.canon }
  pick_by false y ts rest e = let m = d.at y ts rest e in record { behind = m.behind; parts = m.parts; canon = else_canon test m.canon }

  pub pick : Chain (chosen test g h) front p S R
  pick = record { at = λ y ts rest e. pick_by (passes test (first ts)) y ts rest e }

-- ---- single tokens

taken_ok : {K : Type 0} (t : Token) (ts rest : List Token) (r : Result K WitReason) (k : K) → taken t ts r ≡ Ok (k, rest) → (r ≡ Ok k) × (ts ≡ rest)
taken_ok {K} t ts rest (Ok x) k e = let q = pair_is x k ts rest e in (ap (λ (z : K). Ok z) q.0, q.1)
taken_ok t ts rest (Err r) k e = absurd cc

pub token_parts : {K : Type 0} (table : Form → Result K WitReason) (ts rest : List Token) (k : K) → token_reads table ts ≡ Ok (k, rest) → (t : Token) × (ts ≡ t ∷ rest) × (table t.form ≡ Ok k)
token_parts table [] rest k e = absurd cc
token_parts table (t ∷ ts) rest k e = let q = taken_ok t ts rest (table t.form) k e in (t, ap (λ (us : List Token). t ∷ us) q.1, q.0)

read_token : {K : Type 0} (table : Form → Result K WitReason) (t : Token) (more : List Token) (k : K) → table t.form ≡ Ok k → token_reads table (t ∷ more) ≡ Ok (k, more)
read_token table t more k e = rw e refl

pub table_law : {K : Type 0} (table : Form → Result K WitReason) (q : K → List Form) (S M : Option Form → Bool) → ((f : Form) (k : K) → table f ≡ Ok k → (q k ≡ f ∷ []) × (S (Some f) ≡ true)) → Law (token table) q S M
table_law {K} table q S M h = record {
  at = λ k ts rest e.
      let t = token_parts table ts rest k e in
      let f = h t.0.form k t.2 in
      subst (λ (fs : List Form). Canon (token table) k ts rest fs S M) (sym f.0) (record {
        again = λ all after b m.
            ap (token_reads table) b.2 ∙ (read_token table (record { left = b.0; form = t.0.form }) b.1 k t.2 ∙ pair_of k k b.1 after refl b.3);
        same = ap (λ (us : List Token). words (forms us)) t.1 ∙ words_append (t.0.form ∷ []) (forms rest);
        starts = λ next m. f.1;
      });
}
