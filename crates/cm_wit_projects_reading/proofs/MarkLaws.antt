-- The laws of passing over all to a mark that closes.
use Rattle.std.proofs.Common.{◌≡◌, Bool, true, false, if◌then◌else◌, List, [], ◌∷◌, ◌++◌, length, Result, Ok, Err, refl, sym, ap, append_assoc, arith}
use Rattle.std.proofs.lemmas.List.{length-append}
use Rattle.std.specs.List.{AllByRecursion}
use Rattle.cm_wit_tokens.specs.declared.fault.WitReason.{WitReason}
use Rattle.cm_wit_tokens.specs.declared.fault.WitReason.TheVariants as reason
use Rattle.cm_wit_tokens.specs.declared.operator.Operator.{Operator}
use Rattle.cm_wit_tokens.specs.declared.token.Token.{Token}
use Rattle.cm_wit_tokens.specs.Exact.{Lawful, Takes, IsRest}
use Rattle.cm_wit_tokens.specs.Faults.{Fault, flaw}
use Rattle.cm_wit_tokens.specs.Forms.{is_operator}
use Rattle.cm_wit_tokens.proofs.Tools.{not_behind}
use Rattle.cm_lemmas.proofs.Equations.{err_is, ok_is}
use Rattle.cm_lemmas.proofs.Results.{err_of}
use Rattle.cm_wit_projects_reading.specs.LeftOut.{is_other, closed, past, PastSpells, to_mark}
use Rattle.cm_wit_projects_reading.proofs.PlaceLaws.{ok_no_err}

abbrev Read : Type 0
Read = Result (Unit {0} × List Token) Fault

abbrev done_at : List Token → Read
done_at rest = Ok (tt, rest)

-- ---- what is passed over

closed_takes : (closing : Operator) (t : Token) (ts rest : List Token) (x : Unit {0}) (c : Bool) → is_other t.form ≡ false → is_operator closing t.form ≡ c → (if c then done_at ts else Err (flaw (t ∷ ts) reason.Unexpected)) ≡ Ok (x, rest) → Takes (to_mark closing) x (t ∷ ts) rest
closed_takes closing t ts rest x true o q e =
    let k = ok_is {A = Unit {0} × List Token} Fault (tt, ts) (x, rest) e in
    record {
      front = t ∷ [];
      spells = record { others = []; mark = t; parts = refl; each = tt; ends = o; closes = q };
      parts = ap (λ (z : Unit {0} × List Token). t ∷ z.1) k;
    }
closed_takes closing t ts rest x false o q e = absurd (ok_no_err {B = Unit {0} × List Token} (x, rest) (flaw (t ∷ ts) reason.Unexpected) (sym e))

further : (closing : Operator) (t : Token) (ts rest : List Token) (x : Unit {0}) → is_other t.form ≡ true → Takes (to_mark closing) x ts rest → Takes (to_mark closing) x (t ∷ ts) rest
further closing t ts rest x o k =
    let s : PastSpells closing k.front = k.spells in
    record {
      front = t ∷ k.front;
      spells = record {
        others = t ∷ s.others;
        mark = s.mark;
        parts = ap (λ (z : List Token). t ∷ z) s.parts;
        each = (o, s.each);
        ends = s.ends;
        closes = s.closes;
      };
      parts = ap (λ (z : List Token). t ∷ z) k.parts;
    }

past_takes_by : (closing : Operator) (t : Token) (ts rest : List Token) (x : Unit {0}) (b : Bool) → is_other t.form ≡ b → (past closing ts ≡ Ok (x, rest) → Takes (to_mark closing) x ts rest) → (if b then past closing ts else closed closing t ts) ≡ Ok (x, rest) → Takes (to_mark closing) x (t ∷ ts) rest
past_takes_by closing t ts rest x true o more e = further closing t ts rest x o (more e)
past_takes_by closing t ts rest x false o more e = closed_takes closing t ts rest x (is_operator closing t.form) o refl e

past_takes : (closing : Operator) (ts rest : List Token) (x : Unit {0}) → past closing ts ≡ Ok (x, rest) → Takes (to_mark closing) x ts rest
unfolding past
past_takes closing [] rest x e = absurd (ok_no_err {B = Unit {0} × List Token} (x, rest) (flaw [] reason.Unexpected) (sym e))
past_takes closing (t ∷ ts) rest x e = past_takes_by closing t ts rest x (is_other t.form) refl (past_takes closing ts rest x) e

past_again : (closing : Operator) (others : List Token) (mark : Token) (rest : List Token) → AllByRecursion (λ t. is_other t.form ≡ true) others → is_other mark.form ≡ false → is_operator closing mark.form ≡ true → past closing (others ++ mark ∷ rest) ≡ done_at rest
unfolding past
past_again closing [] mark rest each ends closes = rw (ends, closes) refl
past_again closing (t ∷ others) mark rest each ends closes = rw each.0 (past_again closing others mark rest each.1 ends closes)

spelled_again : (closing : Operator) (x : Unit {0}) (front rest : List Token) → PastSpells closing front → past closing (front ++ rest) ≡ Ok (x, rest)
spelled_again closing x front rest s = rw (s.parts, append_assoc s.others (s.mark ∷ []) rest) (past_again closing s.others s.mark rest s.each s.ends s.closes)

-- ---- a fault is inside the tokens

closed_fails : (closing : Operator) (t : Token) (ts : List Token) (f : Fault) (c : Bool) → (if c then done_at ts else Err (flaw (t ∷ ts) reason.Unexpected)) ≡ err_of (Unit {0} × List Token) f → flaw (t ∷ ts) reason.Unexpected ≡ f
closed_fails closing t ts f true e = absurd (ok_no_err {B = Unit {0} × List Token} (tt, ts) f e)
closed_fails closing t ts f false e = err_is (Unit {0} × List Token) (flaw (t ∷ ts) reason.Unexpected) f e

past_within_by : (closing : Operator) (t : Token) (ts : List Token) (f : Fault) (b : Bool) → (past closing ts ≡ Err f → IsRest ts f.rest) → (if b then past closing ts else closed closing t ts) ≡ err_of (Unit {0} × List Token) f → IsRest (t ∷ ts) f.rest
past_within_by closing t ts f true more e = let w = more e in record { front = t ∷ w.front; parts = ap (λ (z : List Token). t ∷ z) w.parts }
past_within_by closing t ts f false more e = record { front = []; parts = ap (λ (d : Fault). d.rest) (closed_fails closing t ts f (is_operator closing t.form) e) }

past_within : (closing : Operator) (ts : List Token) (f : Fault) → past closing ts ≡ Err f → IsRest ts f.rest
unfolding past
past_within closing [] f e = record { front = []; parts = ap (λ (d : Fault). d.rest) (err_is (Unit {0} × List Token) (flaw [] reason.Unexpected) f e) }
past_within closing (t ∷ ts) f e = past_within_by closing t ts f (is_other t.form) (past_within closing ts f) e

-- ---- and the same whatever follows

no_longer_rest : (t : Token) (after : List Token) → IsRest after (t ∷ after) → ⊥
no_longer_rest t after w = omega (arith, ap length w.parts, length-append w.front (t ∷ after))

closed_early : (closing : Operator) (t : Token) (after more : List Token) (r : WitReason) (c : Bool) → is_operator closing t.form ≡ c → (if c then done_at after else Err (flaw (t ∷ after) reason.Unexpected)) ≡ err_of (Unit {0} × List Token) (flaw (t ∷ after) r) → closed closing t more ≡ Err (flaw (t ∷ more) r)
closed_early closing t after more r true q e = absurd (ok_no_err {B = Unit {0} × List Token} (tt, after) (flaw (t ∷ after) r) e)
closed_early closing t after more r false q e = rw q (ap (λ (d : Fault). err_of (Unit {0} × List Token) (flaw (t ∷ more) d.reason)) (err_is (Unit {0} × List Token) (flaw (t ∷ after) reason.Unexpected) (flaw (t ∷ after) r) e))

here_early : (closing : Operator) (t : Token) (after more : List Token) (r : WitReason) (b : Bool) → is_other t.form ≡ b → (if b then past closing after else closed closing t after) ≡ err_of (Unit {0} × List Token) (flaw (t ∷ after) r) → (if b then past closing more else closed closing t more) ≡ err_of (Unit {0} × List Token) (flaw (t ∷ more) r)
here_early closing t after more r true o e = absurd (no_longer_rest t after (past_within closing after (flaw (t ∷ after) r) e))
here_early closing t after more r false o e = closed_early closing t after more r (is_operator closing t.form) refl e

later_early : (closing : Operator) (u : Token) (front after more : List Token) (t : Token) (r : WitReason) (b : Bool) → (past closing (front ++ t ∷ after) ≡ Err (flaw (t ∷ after) r) → past closing (front ++ t ∷ more) ≡ Err (flaw (t ∷ more) r)) → (if b then past closing (front ++ t ∷ after) else closed closing u (front ++ t ∷ after)) ≡ err_of (Unit {0} × List Token) (flaw (t ∷ after) r) → (if b then past closing (front ++ t ∷ more) else closed closing u (front ++ t ∷ more)) ≡ err_of (Unit {0} × List Token) (flaw (t ∷ more) r)
later_early closing u front after more t r true next e = next e
later_early closing u front after more t r false next e = absurd (not_behind u front (t ∷ after) (ap (λ (d : Fault). d.rest) (closed_fails closing u (front ++ t ∷ after) (flaw (t ∷ after) r) (is_operator closing u.form) e)))

past_early : (closing : Operator) (front after : List Token) (t : Token) (r : WitReason) → past closing (front ++ t ∷ after) ≡ Err (flaw (t ∷ after) r) → (more : List Token) → past closing (front ++ t ∷ more) ≡ Err (flaw (t ∷ more) r)
unfolding past
past_early closing [] after t r e more = here_early closing t after more r (is_other t.form) refl e
past_early closing (u ∷ front) after t r e more = later_early closing u front after more t r (is_other u.form) (λ h. past_early closing front after t r h more) e

pub to_mark_lawful : (closing : Operator) → Lawful (to_mark closing)
to_mark_lawful closing = record {
  takes = λ ts x rest e. past_takes closing ts rest x e;
  again = λ x front rest s. spelled_again closing x front rest s;
  within = λ ts f e. past_within closing ts f e;
  early = λ front after t r e more. past_early closing front after t r e more;
}
