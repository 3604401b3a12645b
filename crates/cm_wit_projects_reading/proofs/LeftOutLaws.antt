-- The laws of what is left out.
use Rattle.std.proofs.Common.{◌≡◌, ℕ, Bool, true, false, if◌then◌else◌, List, [], ◌∷◌, ◌++◌, Result, Ok, Err, refl, sym, ap, subst, ◌∙◌, append_assoc, ◌⊎◌, inl, inr}
use Rattle.cm_wit_tokens.specs.declared.fault.ReadError.{ReadError}
use Rattle.cm_wit_tokens.specs.declared.fault.ReadError.TheVariants as errors
use Rattle.cm_wit_tokens.specs.declared.fault.WitReason.{WitReason}
use Rattle.cm_wit_tokens.specs.declared.operator.Operator.{Operator}
use Rattle.cm_wit_tokens.specs.declared.token.Token.{Token}
use Rattle.cm_wit_tokens.specs.Exact.{Lawful, Takes, IsRest}
use Rattle.cm_wit_tokens.specs.Faults.{Fault, flaw, and_then, Fails}
use Rattle.cm_wit_tokens.specs.Grammar.{first, Grammar}
use Rattle.cm_wit_tokens.proofs.Tools.{then_ok, then_err, same_front, parts_behind}
use Rattle.cm_lemmas.proofs.Equations.{err_is, ok_is}
use Rattle.cm_lemmas.proofs.Results.{err_of, ok_of}
use Rattle.cm_wit_projects_reading.specs.LeftOut.{is_left_out, past, passed, kept_from, KeptSpells, or_left_out, to_mark}
use Rattle.cm_wit_projects_reading.specs.Passing.{Passes}
use Rattle.cm_wit_projects_reading.specs.Trees.{Kept, kept, left_out}
use Rattle.cm_wit_projects_reading.proofs.MarkLaws.{to_mark_lawful}
use Rattle.cm_wit_projects_reading.proofs.PlaceLaws.{ok_no_err}

abbrev at_place : ℕ → Unit {0} × List Token → Result (ℕ × List Token) Fault
at_place n p = Ok (n, p.1)

abbrev omitted : {A : Type 0} → ℕ × List Token → Result (Kept A × List Token) Fault
omitted p = Ok (left_out p.0, p.1)

-- ---- what is passed over

-- a word that is left out, at the front, and what is passed over behind it
record Over (closing : Operator) (ts rest : List Token) (place : ℕ) : Type 0 where
  word : Token
  behind : List Token
  is : ts ≡ word ∷ behind
  is_word : is_left_out word.form ≡ true
  at : word.left ≡ place
  over : Takes (to_mark closing) tt behind rest

passed_by : (closing : Operator) (t : Token) (ts : List Token) (r : WitReason) (place : ℕ) (rest : List Token) (b : Bool) → is_left_out t.form ≡ b → (if b then and_then (past closing ts) (at_place t.left) else Err (flaw (t ∷ ts) r)) ≡ ok_of {A = ℕ × List Token} Fault (place, rest) → Over closing (t ∷ ts) rest place
passed_by closing t ts r place rest true q e =
    let p = then_ok (past closing ts) (at_place t.left) (place, rest) e in
    let k = ok_is {A = ℕ × List Token} Fault (t.left, p.0.1) (place, rest) p.2 in
    let here : p.0.1 ≡ rest = ap (λ (z : ℕ × List Token). z.1) k in
    record {
      word = t;
      behind = ts;
      is = refl;
      is_word = q;
      at = ap (λ (z : ℕ × List Token). z.0) k;
      over = (to_mark_lawful closing).takes ts tt rest (subst (λ (z : List Token). past closing ts ≡ ok_of {A = Unit {0} × List Token} Fault (tt, z)) here p.1);
    }
passed_by closing t ts r place rest false q e = absurd (ok_no_err {B = ℕ × List Token} (place, rest) (flaw (t ∷ ts) r) (sym e))

passed_takes : (closing : Operator) (ts : List Token) (r : WitReason) (place : ℕ) (rest : List Token) → passed closing ts r ≡ Ok (place, rest) → Over closing ts rest place
passed_takes closing [] r place rest e = absurd (ok_no_err {B = ℕ × List Token} (place, rest) (flaw [] r) (sym e))
passed_takes closing (t ∷ ts) r place rest e = passed_by closing t ts r place rest (is_left_out t.form) refl e

-- a fault is at the front, where no such word is
record Stays (ts : List Token) (r : WitReason) (f : Fault) : Type 0 where
  same : flaw ts r ≡ f
  no_word : (t : Token) (more : List Token) → ts ≡ t ∷ more → is_left_out t.form ≡ false

-- or it is behind such a word
record Goes (closing : Operator) (ts : List Token) (f : Fault) : Type 0 where
  word : Token
  behind : List Token
  is : ts ≡ word ∷ behind
  is_word : is_left_out word.form ≡ true
  fails : past closing behind ≡ Err f

no_front : (r : WitReason) (t : Token) (more : List Token) → [] ≡ t ∷ more → is_left_out t.form ≡ false
no_front r t more e = absurd cc

word_of : (t u : Token) (ts more : List Token) → t ∷ ts ≡ u ∷ more → t ≡ u
word_of t u ts more e = cc

fails_by : (closing : Operator) (t : Token) (ts : List Token) (r : WitReason) (f : Fault) (b : Bool) → is_left_out t.form ≡ b → (if b then and_then (past closing ts) (at_place t.left) else Err (flaw (t ∷ ts) r)) ≡ err_of (ℕ × List Token) f → Stays (t ∷ ts) r f ⊎ Goes closing (t ∷ ts) f
fails_by closing t ts r f true q e =
    elim (then_err (past closing ts) (at_place t.left) f e) [
      | inl p ↦ inr (record { word = t; behind = ts; is = refl; is_word = q; fails = p })
      | inr p ↦ absurd (ok_no_err {B = ℕ × List Token} (t.left, p.0.1) f p.2)
    ]
fails_by closing t ts r f false q e = inl (record {
  same = err_is (ℕ × List Token) (flaw (t ∷ ts) r) f e;
  no_word = λ u more h. subst (λ (v : Token). is_left_out v.form ≡ false) (word_of t u ts more h) q;
})

passed_fails : (closing : Operator) (ts : List Token) (r : WitReason) (f : Fault) → passed closing ts r ≡ Err f → Stays ts r f ⊎ Goes closing ts f
passed_fails closing [] r f e = inl (record { same = err_is (ℕ × List Token) (flaw [] r) f e; no_word = no_front r })
passed_fails closing (t ∷ ts) r f e = fails_by closing t ts r f (is_left_out t.form) refl e

-- ---- what is read is spelled

left_takes : {A : Type 0} (closing : Operator) (g : Grammar A) → Lawful g → (ts : List Token) (f : Fault) (x : Kept A) (rest : List Token) → g.reads ts ≡ Err f → and_then (passed closing f.rest f.reason) omitted ≡ Ok (x, rest) → Takes (or_left_out closing g) x ts rest
left_takes {A} closing g l ts f x rest read e =
    let q = then_ok (passed closing f.rest f.reason) (omitted {A = A}) (x, rest) e in
    let k = ok_is {A = Kept A × List Token} Fault (left_out q.0.0, q.0.1) (x, rest) q.2 in
    let here : q.0.1 ≡ rest = ap (λ (z : Kept A × List Token). z.1) k in
    let o = passed_takes closing f.rest f.reason q.0.0 rest (subst (λ (z : List Token). passed closing f.rest f.reason ≡ ok_of {A = ℕ × List Token} Fault (q.0.0, z)) here q.1) in
    let i = l.within ts f read in
    let all : ts ≡ i.front ++ o.word ∷ o.behind = i.parts ∙ ap (λ (z : List Token). i.front ++ z) o.is in
    let fails : g.reads (i.front ++ o.word ∷ o.behind) ≡ err_of (A × List Token) (flaw (o.word ∷ o.behind) f.reason) = subst (λ (z : List Token). g.reads z ≡ err_of (A × List Token) (flaw (o.word ∷ o.behind) f.reason)) all (read ∙ ap (λ (z : List Token). err_of (A × List Token) (flaw z f.reason)) o.is) in
    record {
      front = i.front ++ o.word ∷ o.over.front;
      spells = subst (λ (z : Kept A). KeptSpells closing g z (i.front ++ o.word ∷ o.over.front) (first rest)) (ap (λ (z : Kept A × List Token). z.0) k) (record {
        front = i.front;
        word = o.word;
        others = o.over.front;
        reason = f.reason;
        parts = refl;
        at = sym o.at;
        is_word = o.is_word;
        stops = l.early i.front o.behind o.word f.reason fails [];
        over = o.over.spells;
      });
      parts = all ∙ (ap (λ (z : List Token). i.front ++ o.word ∷ z) o.over.parts ∙ sym (append_assoc i.front (o.word ∷ o.over.front) rest));
    }

kept_takes : {A : Type 0} (closing : Operator) (g : Grammar A) → Lawful g → (ts : List Token) (x : Kept A) (rest : List Token) (r : Result (A × List Token) Fault) → g.reads ts ≡ r → kept_from closing r ≡ Ok (x, rest) → Takes (or_left_out closing g) x ts rest
kept_takes {A} closing g l ts x rest (Ok p) read e =
    let k = ok_is {A = Kept A × List Token} Fault (kept p.0, p.1) (x, rest) e in
    let here : p.1 ≡ rest = ap (λ (z : Kept A × List Token). z.1) k in
    let t = l.takes ts p.0 p.1 read in
    record {
      front = t.front;
      spells = subst (λ (z : Kept A). KeptSpells closing g z t.front (first rest)) (ap (λ (z : Kept A × List Token). z.0) k) (subst (λ (m : List Token). g.Spells p.0 t.front (first m)) here t.spells);
      parts = t.parts ∙ ap (λ (z : List Token). t.front ++ z) here;
    }
kept_takes closing g l ts x rest (Err f) read e = left_takes closing g l ts f x rest read e

-- ---- what is spelled is read

kept_again : {A : Type 0} (closing : Operator) (g : Grammar A) → Lawful g → (x : Kept A) (front rest : List Token) → KeptSpells closing g x front (first rest) → kept_from closing (g.reads (front ++ rest)) ≡ Ok (x, rest)
kept_again closing g l (kept x) front rest s = rw (l.again x front rest s) refl
kept_again closing g l (left_out place) front rest s =
    let whole : front ++ rest ≡ s.front ++ s.word ∷ (s.others ++ rest) = ap (λ (z : List Token). z ++ rest) s.parts ∙ append_assoc s.front (s.word ∷ s.others) rest in
    rw (whole, l.early s.front [] s.word s.reason s.stops (s.others ++ rest), s.is_word, (to_mark_lawful closing).again tt s.others rest s.over, sym s.at) refl

-- ---- a fault is inside the tokens

kept_within : {A : Type 0} (closing : Operator) (g : Grammar A) → Lawful g → (ts : List Token) (f : Fault) (r : Result (A × List Token) Fault) → g.reads ts ≡ r → kept_from closing r ≡ Err f → IsRest ts f.rest
kept_within {A} closing g l ts f (Ok p) read e = absurd (ok_no_err {B = Kept A × List Token} (kept p.0, p.1) f e)
kept_within {A} closing g l ts f (Err d) read e =
    let i = l.within ts d read in
    elim (then_err (passed closing d.rest d.reason) (omitted {A = A}) f e) [
      | inl q ↦ elim (passed_fails closing d.rest d.reason f q) [
        | inl s ↦ subst (λ (z : List Token). IsRest ts z) (ap (λ (z : Fault). z.rest) s.same) i
        | inr h ↦
            let w = (to_mark_lawful closing).within h.behind f h.fails in
            record { front = i.front ++ h.word ∷ w.front; parts = parts_behind ts i.front d.rest (h.word ∷ w.front) f.rest i.parts (h.is ∙ ap (λ (z : List Token). h.word ∷ z) w.parts) }
      ]
      | inr q ↦ absurd (ok_no_err {B = Kept A × List Token} (left_out q.0.0, q.0.1) f q.2)
    ]

-- ---- and the same whatever follows

early_stays : {A : Type 0} (closing : Operator) (g : Grammar A) → Lawful g → (front after : List Token) (t : Token) (r : WitReason) (d : Fault) → g.reads (front ++ t ∷ after) ≡ Err d → Stays d.rest d.reason (flaw (t ∷ after) r) → (more : List Token) → kept_from closing (g.reads (front ++ t ∷ more)) ≡ Err (flaw (t ∷ more) r)
early_stays {A} closing g l front after t r d read s more =
    let fails = read ∙ ap (λ (z : Fault). err_of (A × List Token) z) s.same in
    let no = s.no_word t after (ap (λ (z : Fault). z.rest) s.same) in
    rw (l.early front after t r fails more, no) refl

early_goes : {A : Type 0} (closing : Operator) (g : Grammar A) → Lawful g → (front after : List Token) (t : Token) (r : WitReason) (d : Fault) → g.reads (front ++ t ∷ after) ≡ Err d → Goes closing d.rest (flaw (t ∷ after) r) → (more : List Token) → kept_from closing (g.reads (front ++ t ∷ more)) ≡ Err (flaw (t ∷ more) r)
early_goes {A} closing g l front after t r d read h more =
    let m = to_mark_lawful closing in
    let i = l.within (front ++ t ∷ after) d read in
    let v = m.within h.behind (flaw (t ∷ after) r) h.fails in
    let all : front ++ t ∷ after ≡ i.front ++ h.word ∷ h.behind = i.parts ∙ ap (λ (z : List Token). i.front ++ z) h.is in
    let s = same_front front i.front (h.word ∷ v.front) (t ∷ after) (all ∙ ap (λ (z : List Token). i.front ++ h.word ∷ z) v.parts) in
    let fails : g.reads (i.front ++ h.word ∷ h.behind) ≡ err_of (A × List Token) (flaw (h.word ∷ h.behind) d.reason) = subst (λ (z : List Token). g.reads z ≡ err_of (A × List Token) (flaw (h.word ∷ h.behind) d.reason)) all (read ∙ ap (λ (z : List Token). err_of (A × List Token) (flaw z d.reason)) h.is) in
    let over = m.early v.front after t r (subst (λ (z : List Token). past closing z ≡ err_of (Unit {0} × List Token) (flaw (t ∷ after) r)) v.parts h.fails) more in
    rw (s, append_assoc i.front (h.word ∷ v.front) (t ∷ more), l.early i.front h.behind h.word d.reason fails (v.front ++ t ∷ more), h.is_word, over) refl

kept_early : {A : Type 0} (closing : Operator) (g : Grammar A) → Lawful g → (front after : List Token) (t : Token) (r : WitReason) (read : Result (A × List Token) Fault) → g.reads (front ++ t ∷ after) ≡ read → kept_from closing read ≡ Err (flaw (t ∷ after) r) → (more : List Token) → kept_from closing (g.reads (front ++ t ∷ more)) ≡ Err (flaw (t ∷ more) r)
kept_early {A} closing g l front after t r (Ok p) q e more = absurd (ok_no_err {B = Kept A × List Token} (kept p.0, p.1) (flaw (t ∷ after) r) e)
kept_early {A} closing g l front after t r (Err d) q e more =
    elim (then_err (passed closing d.rest d.reason) (omitted {A = A}) (flaw (t ∷ after) r) e) [
      | inl p ↦ elim (passed_fails closing d.rest d.reason (flaw (t ∷ after) r) p) [
        | inl s ↦ early_stays closing g l front after t r d q s more
        | inr h ↦ early_goes closing g l front after t r d q h more
      ]
      | inr p ↦ absurd (ok_no_err {B = Kept A × List Token} (left_out p.0.0, p.0.1) (flaw (t ∷ after) r) p.2)
    ]

pub or_left_out_lawful : {A : Type 0} (closing : Operator) (g : Grammar A) → Lawful g → Lawful (or_left_out closing g)
or_left_out_lawful closing g l = record {
  takes = λ ts x rest e. kept_takes closing g l ts x rest (g.reads ts) refl e;
  again = λ x front rest s. kept_again closing g l x front rest s;
  within = λ ts f e. kept_within closing g l ts f (g.reads ts) refl e;
  early = λ front after t r e more. kept_early closing g l front after t r (g.reads (front ++ t ∷ after)) refl e more;
}

-- ---- what code that passes over what is left out comes to

pub kept_read : {A : Type 0} (closing : Operator) (read : Result (A × List Token) Fault) (x : A) (new : List Token) → read ≡ Ok (x, new) → kept_from closing read ≡ Ok (kept x, new)
kept_read closing read x new h = rw h refl

pub kept_passed : {A : Type 0} (closing : Operator) (fault : ReadError) (mid new : List Token) (place : ℕ) (read : Result (A × List Token) Fault) → Fails mid fault read → Passes closing fault mid new (Ok place) → kept_from closing read ≡ Ok (left_out place, new)
kept_passed closing errors.Memory mid new place read h p = absurd cc
kept_passed closing (errors.Fault r) mid new place read h p = rw (h, p) refl

err_memory : (e : ReadError) (left : List Token) → err_of ℕ e ≡ Err errors.Memory → {Y : Type 0} (read : Result Y Fault) → Fails left e read
err_memory errors.Memory left q read = tt
err_memory (errors.Fault r) left q read = absurd cc

not_passed : (A : Type 0) (closing : Operator) (e : ReadError) (r : WitReason) (mid new : List Token) → Fails new e (passed closing mid r) → Fails new e (kept_from {A = A} closing (Err (flaw mid r)))
not_passed A closing errors.Memory r mid new h = tt
not_passed A closing (errors.Fault s) r mid new h = rw h refl

pub kept_not_passed : {A : Type 0} (closing : Operator) (fault : ReadError) (mid new : List Token) (e : ReadError) (read : Result (A × List Token) Fault) → Fails mid fault read → Passes closing fault mid new (Err e) → Fails new e (kept_from closing read)
kept_not_passed closing errors.Memory mid new e read h p = err_memory e new p (kept_from closing read)
kept_not_passed {A} closing (errors.Fault r) mid new e read h p = rw h (not_passed A closing e r mid new p)

pub ruleset kept_laws = (kept_read, kept_passed, kept_not_passed)
