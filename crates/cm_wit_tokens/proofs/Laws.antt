-- The laws of a grammar of tokens, and of each step.
use Rattle.std.proofs.Common.{◌≡◌, Bool, true, false, if◌then◌else◌, List, [], ◌∷◌, ◌++◌, Result, Ok, Err, refl, sym, ap, subst, ◌∙◌, append_assoc, inl, inr, ◌⊎◌}
use Rattle.cm_wit_tokens.specs.declared.token.Token.{Token}
use Rattle.cm_wit_tokens.specs.declared.token.Form.{Form}
use Rattle.cm_wit_tokens.specs.declared.fault.WitReason.{WitReason}
use Rattle.cm_wit_tokens.specs.declared.fault.WitReason.TheVariants as reason
use Rattle.cm_wit_tokens.specs.Faults.{Fault, flaw}
use Rattle.cm_wit_tokens.specs.Grammar.{first, Grammar, done, ◌>>=◌, taken, token_reads, token, passes, chosen}
use Rattle.cm_wit_tokens.proofs.Tools.{then_ok, then_err, then_from_err, first-append, first_same, same_front, not_behind, parts_behind}
pub use Rattle.cm_wit_tokens.specs.Exact.{Takes, IsRest, Lawful}
use Rattle.cm_lemmas.proofs.Equations.{err_is, ok_is}
use Rattle.cm_lemmas.proofs.Results.{err_of, ok_of}

-- ---- no tokens

pub done_lawful : {A : Type 0} (x : A) → Lawful (done x)
done_lawful {A} x = record {
  takes = λ ts y rest h.
      let p = ok_is Fault (x, ts) (y, rest) h in
      record { front = []; spells = (sym (ap (λ (q : A × List Token). q.0) p), refl); parts = ap (λ (q : A × List Token). q.1) p };
  again = λ y front rest s. rw (s.0, s.1) refl;
  within = λ ts f h. absurd cc;
  early = λ front after t r h more. absurd cc;
}

-- ---- one thing, and then another

pub bind_lawful : {A B : Type 0} (g : Grammar A) (h : A → Grammar B) → Lawful g → ((x : A) → Lawful (h x)) → Lawful (g >>= h)
bind_lawful {A} {B} g h l m = record {
  takes = λ ts y rest e.
      let q = then_ok (g.reads ts) (λ (x : A × List Token). (h x.0).reads x.1) (y, rest) e in
      let t = l.takes ts q.0.0 q.0.1 q.1 in
      let u = (m q.0.0).takes q.0.1 y rest q.2 in
      record {
        front = t.front ++ u.front;
        spells = (q.0.0, t.front, u.front, subst (λ n. g.Spells q.0.0 t.front n) (ap first u.parts ∙ first-append u.front rest) t.spells, u.spells, refl);
        parts = parts_behind ts t.front q.0.1 u.front rest t.parts u.parts;
      };
  again = λ y front rest s.
      let p = l.again s.0 s.1 (s.2 ++ rest) (subst (λ n. g.Spells s.0 s.1 n) (sym (first-append s.2 rest)) s.3) in
      rw (s.5, append_assoc s.1 s.2 rest, p) ((m s.0).again y s.2 rest s.4);
  within = λ ts f e.
      elim (then_err (g.reads ts) (λ (x : A × List Token). (h x.0).reads x.1) f e) [
        | inl q ↦ l.within ts f q
        | inr q ↦
            let t = l.takes ts q.0.0 q.0.1 q.1 in
            let w = (m q.0.0).within q.0.1 f q.2 in
            record { front = t.front ++ w.front; parts = parts_behind ts t.front q.0.1 w.front f.rest t.parts w.parts }
      ];
  early = λ front after t r e more.
      elim (then_err (g.reads (front ++ t ∷ after)) (λ (x : A × List Token). (h x.0).reads x.1) (flaw (t ∷ after) r) e) [
        | inl q ↦ then_from_err (g.reads (front ++ t ∷ more)) (λ (x : A × List Token). (h x.0).reads x.1) (flaw (t ∷ more) r) (l.early front after t r q more)
        | inr q ↦
            let k = l.takes (front ++ t ∷ after) q.0.0 q.0.1 q.1 in
            let w = (m q.0.0).within q.0.1 (flaw (t ∷ after) r) q.2 in
            let s = same_front front k.front w.front (t ∷ after) (k.parts ∙ ap (λ (z : List Token). k.front ++ z) w.parts) in
            let here : first q.0.1 ≡ first (w.front ++ t ∷ more) = ap first w.parts ∙ first_same w.front after more t in
            let again = l.again q.0.0 k.front (w.front ++ t ∷ more) (subst (λ n. g.Spells q.0.0 k.front n) here k.spells) in
            let fails = (m q.0.0).early w.front after t r (subst (λ z. (h q.0.0).reads z ≡ err_of (B × List Token) (flaw (t ∷ after) r)) w.parts q.2) more in
            rw (s, append_assoc k.front w.front (t ∷ more), again) fails
      ];
}

-- ---- a token of a table

taken_ok : {K : Type 0} (t : Token) (ts : List Token) (o : Result K WitReason) (k : K) (rest : List Token) → taken t ts o ≡ Ok (k, rest) → (o ≡ Ok k) × (ts ≡ rest)
taken_ok {K} t ts (Ok j) k rest e =
    let p = ok_is Fault (j, ts) (k, rest) e in
    (ap (λ (q : K × List Token). ok_of WitReason q.0) p, ap (λ (q : K × List Token). q.1) p)
taken_ok t ts (Err r) k rest e = absurd cc

taken_err : {K : Type 0} (t : Token) (ts : List Token) (o : Result K WitReason) (f : Fault) → taken t ts o ≡ Err f → (r : WitReason) × (o ≡ Err r) × (f ≡ flaw (t ∷ ts) r)
taken_err t ts (Ok j) f e = absurd cc
taken_err {K} t ts (Err r) f e = (r, refl, sym (err_is (K × List Token) (flaw (t ∷ ts) r) f e))

token_takes : {K : Type 0} (table : Form → Result K WitReason) (ts : List Token) (k : K) (rest : List Token) → token_reads table ts ≡ Ok (k, rest) → Takes (token table) k ts rest
token_takes table [] k rest e = absurd cc
token_takes table (t ∷ ts) k rest e =
    let p = taken_ok t ts (table t.form) k rest e in
    record { front = t ∷ []; spells = (t, refl, p.0); parts = ap (λ (z : List Token). t ∷ z) p.1 }

token_within : {K : Type 0} (table : Form → Result K WitReason) (ts : List Token) (f : Fault) → token_reads table ts ≡ Err f → IsRest ts f.rest
token_within {K} table [] f e = record { front = []; parts = ap (λ (d : Fault). d.rest) (err_is (K × List Token) (flaw [] reason.Unexpected) f e) }
token_within table (t ∷ ts) f e = let p = taken_err t ts (table t.form) f e in record { front = []; parts = sym (ap (λ (d : Fault). d.rest) p.2) }

token_early : {K : Type 0} (table : Form → Result K WitReason) (front after : List Token) (t : Token) (r : WitReason) → token_reads table (front ++ t ∷ after) ≡ Err (flaw (t ∷ after) r) → (more : List Token) → token_reads table (front ++ t ∷ more) ≡ Err (flaw (t ∷ more) r)
token_early {K} table [] after t r e more =
    let p = taken_err t after (table t.form) (flaw (t ∷ after) r) e in
    let q : table t.form ≡ err_of K r = p.1 ∙ ap (λ (d : Fault). err_of K d.reason) (sym p.2) in
    rw q refl
token_early table (u ∷ front) after t r e more =
    let p = taken_err u (front ++ t ∷ after) (table u.form) (flaw (t ∷ after) r) e in
    absurd (not_behind u front (t ∷ after) (sym (ap (λ (d : Fault). d.rest) p.2)))

pub token_lawful : {K : Type 0} (table : Form → Result K WitReason) → Lawful (token table)
token_lawful table = record {
  takes = token_takes table;
  again = λ k front rest s. rw (s.1, s.2) refl;
  within = token_within table;
  early = token_early table;
}

-- ---- what the next token chooses

pub if_ok : {A : Type 0} (b : Bool) (x y : Result A Fault) (z : Result A Fault) → (if b then x else y) ≡ z → ((b ≡ true) × (x ≡ z)) ⊎ ((b ≡ false) × (y ≡ z))
if_ok true x y z e = inl (refl, e)
if_ok false x y z e = inr (refl, e)

pub chosen_lawful : {A : Type 0} (test : Form → Bool) (g h : Grammar A) → Lawful g → Lawful h → Lawful (chosen test g h)
chosen_lawful {A} test g h l m = record {
  takes = λ ts x rest e.
      elim (if_ok (passes test (first ts)) (g.reads ts) (h.reads ts) (Ok (x, rest)) e) [
        | inl p ↦
            let t = l.takes ts x rest p.1 in
            record { front = t.front; spells = inl (ap (passes test) (sym (ap first t.parts ∙ first-append t.front rest)) ∙ p.0, t.spells); parts = t.parts }
        | inr p ↦
            let t = m.takes ts x rest p.1 in
            record { front = t.front; spells = inr (ap (passes test) (sym (ap first t.parts ∙ first-append t.front rest)) ∙ p.0, t.spells); parts = t.parts }
      ];
  again = λ x front rest s.
      elim s [
        | inl p ↦ let q : passes test (first (front ++ rest)) ≡ true = ap (passes test) (first-append front rest) ∙ p.0 in rw q (l.again x front rest p.1)
        | inr p ↦ let q : passes test (first (front ++ rest)) ≡ false = ap (passes test) (first-append front rest) ∙ p.0 in rw q (m.again x front rest p.1)
      ];
  within = λ ts f e.
      elim (if_ok (passes test (first ts)) (g.reads ts) (h.reads ts) (Err f) e) [ inl p ↦ l.within ts f p.1 | inr p ↦ m.within ts f p.1 ];
  early = λ front after t r e more.
      elim (if_ok (passes test (first (front ++ t ∷ after))) (g.reads (front ++ t ∷ after)) (h.reads (front ++ t ∷ after)) (Err (flaw (t ∷ after) r)) e) [
        | inl p ↦ let q : passes test (first (front ++ t ∷ more)) ≡ true = ap (passes test) (sym (first_same front after more t)) ∙ p.0 in rw q (l.early front after t r p.1 more)
        | inr p ↦ let q : passes test (first (front ++ t ∷ more)) ≡ false = ap (passes test) (sym (first_same front after more t)) ∙ p.0 in rw q (m.early front after t r p.1 more)
      ];
}
