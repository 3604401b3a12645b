-- What code that passes over tokens comes to.
use Rattle.std.proofs.Common.{◌≡◌, ◌<◌, ℕ, zero, Bool, true, false, List, [], ◌∷◌, length, Option, Some, None, MatchOption, Result, Ok, Err, refl, sym, ap, subst, ◌∙◌, arith}
use Rattle.cm_wit_tokens.specs.declared.fault.ReadError.{ReadError}
use Rattle.cm_wit_tokens.specs.declared.fault.ReadError.TheVariants as errors
use Rattle.cm_wit_tokens.specs.declared.fault.WitReason.{WitReason}
use Rattle.cm_wit_tokens.specs.declared.fault.WitReason.TheVariants as reason
use Rattle.cm_wit_tokens.specs.declared.operator.Operator.{Operator}
use Rattle.cm_wit_tokens.specs.declared.token.Form.{Form}
use Rattle.cm_wit_tokens.specs.declared.token.Token.{Token}
use Rattle.cm_wit_tokens.specs.Faults.{Fault, flaw, and_then, Fails}
use Rattle.cm_wit_tokens.specs.Forms.{is_operator}
use Rattle.cm_wit_tokens.specs.Grammar.{first, passes}
use Rattle.cm_wit_tokens.specs.Reading.{next_left}
use Rattle.cm_lemmas.proofs.Results.{ok_of}
use Rattle.cm_wit_projects_reading.specs.LeftOut.{is_left_out, left_of, is_other, closed, past, passed}

-- ---- places

pub left_some : (ts : List Token) (n : ℕ) → next_left ts ≡ Some n → n ≡ left_of (first ts)
left_some [] n e = absurd cc
left_some (t ∷ ts) n e = cc

pub left_none : (ts : List Token) → next_left ts ≡ None → zero ≡ left_of (first ts)
left_none [] e = refl
left_none (t ∷ ts) e = absurd cc

-- ---- up to a mark

-- What stands behind the mark that closes all tokens is what stands behind that of the rest.
pub record Skips (closing : Operator) (all rest : List Token) : Type 0 where
  pub is : past closing rest ≡ past closing all

pub skips_start : (closing : Operator) (all : List Token) → Skips closing all all
skips_start closing all = record { is = refl }

-- what taking a token answers
abbrev pub Taken : List Token → List Token → Option Token → Type 0
Taken old new o = MatchOption o ((old ≡ []) × (new ≡ [])) (λ t. old ≡ t ∷ new)

some_first : (test : Form → Bool) (old : List Token) → old ≡ [] → passes test (first old) ≡ true → ⊥
some_first test [] e h = absurd cc
some_first test (t ∷ ts) e h = absurd cc

past_other : (closing : Operator) (t : Token) (ts : List Token) → is_other t.form ≡ true → past closing (t ∷ ts) ≡ past closing ts
unfolding past
past_other closing t ts e = rw e refl

past_closed : (closing : Operator) (t : Token) (ts : List Token) → is_other t.form ≡ false → past closing (t ∷ ts) ≡ closed closing t ts
unfolding past
past_closed closing t ts e = rw e refl

past_nothing : (closing : Operator) → past closing [] ≡ Err (flaw [] reason.Unexpected)
unfolding past
past_nothing closing = refl

pub skips_on : (closing : Operator) (all old new : List Token) (o : Option Token) → Taken old new o → passes is_other (first old) ≡ true → Skips closing all old → Skips closing all new
skips_on closing all old new None k h s = absurd (some_first is_other old k.0 h)
skips_on closing all old new (Some t) k h s = record { is = sym (ap (past closing) k ∙ past_other closing t new (sym (ap (λ (ts : List Token). passes is_other (first ts)) k) ∙ h)) ∙ s.is }

pub skips_fewer : (old new : List Token) (o : Option Token) → Taken old new o → passes is_other (first old) ≡ true → length new < length old
skips_fewer old new None k h = absurd (some_first is_other old k.0 h)
skips_fewer old new (Some t) k h = omega (arith, ap length k)

pub skips_done : (closing : Operator) (all old new : List Token) (o : Option Token) → Taken old new o → passes is_other (first old) ≡ false → passes (is_operator closing) (first old) ≡ true → Skips closing all old → past closing all ≡ Ok (tt, new)
skips_done closing all old new None k h c s = absurd (some_first (is_operator closing) old k.0 c)
skips_done closing all old new (Some t) k h c s =
    let other : is_other t.form ≡ false = sym (ap (λ (ts : List Token). passes is_other (first ts)) k) ∙ h in
    let closes : is_operator closing t.form ≡ true = sym (ap (λ (ts : List Token). passes (is_operator closing) (first ts)) k) ∙ c in
    sym s.is ∙ (ap (past closing) k ∙ (past_closed closing t new other ∙ rw closes refl))

stops_at : (closing : Operator) (old : List Token) → passes is_other (first old) ≡ false → passes (is_operator closing) (first old) ≡ false → past closing old ≡ Err (flaw old reason.Unexpected)
stops_at closing [] h c = past_nothing closing
stops_at closing (t ∷ ts) h c = past_closed closing t ts h ∙ rw c refl

pub skips_end : (closing : Operator) (all old : List Token) → passes is_other (first old) ≡ false → passes (is_operator closing) (first old) ≡ false → Skips closing all old → past closing all ≡ Err (flaw old reason.Unexpected)
skips_end closing all old h c s = sym s.is ∙ stops_at closing old h c

pub ruleset skip_laws = (skips_start, skips_on, skips_fewer, skips_done, skips_end)

-- ---- behind a fault

pub passed_not : (closing : Operator) (ts : List Token) (r : WitReason) → passes is_left_out (first ts) ≡ false → passed closing ts r ≡ Err (flaw ts r)
passed_not closing [] r e = refl
passed_not closing (t ∷ ts) r e = rw e refl

passed_word : (closing : Operator) (t : Token) (ts : List Token) (r : WitReason) → is_left_out t.form ≡ true → passed closing (t ∷ ts) r ≡ and_then (past closing ts) (λ p. Ok (t.left, p.1))
passed_word closing t ts r e = rw e refl

word_first : (old mid : List Token) (t : Token) → old ≡ t ∷ mid → passes is_left_out (first old) ≡ true → is_left_out t.form ≡ true
word_first old mid t e is = sym (ap (λ (ts : List Token). passes is_left_out (first ts)) e) ∙ is

pub passed_on : (closing : Operator) (old mid new : List Token) (t : Token) (r : WitReason) → old ≡ t ∷ mid → passes is_left_out (first old) ≡ true → past closing mid ≡ Ok (tt, new) → passed closing old r ≡ Ok (t.left, new)
passed_on closing old mid new t r e is h = ap (λ (ts : List Token). passed closing ts r) e ∙ (passed_word closing t mid r (word_first old mid t e is) ∙ rw h refl)

fails_on : (closing : Operator) (mid new : List Token) (t : Token) (e : ReadError) → Fails new e (past closing mid) → Fails {Y = ℕ × List Token} new e (and_then (past closing mid) (λ p. ok_of Fault (t.left, p.1)))
fails_on closing mid new t errors.Memory h = tt
fails_on closing mid new t (errors.Fault s) h = rw h refl

pub passed_fails_on : (closing : Operator) (old mid new : List Token) (t : Token) (r : WitReason) (e : ReadError) → old ≡ t ∷ mid → passes is_left_out (first old) ≡ true → Fails new e (past closing mid) → Fails new e (passed closing old r)
passed_fails_on closing old mid new t r e q is h = subst (λ (z : Result (ℕ × List Token) Fault). Fails new e z) (sym (ap (λ (ts : List Token). passed closing ts r) q ∙ passed_word closing t mid r (word_first old mid t q is))) (fails_on closing mid new t e h)

pub passed_end : (closing : Operator) (old new : List Token) (r : WitReason) → old ≡ [] → new ≡ [] → passed closing old r ≡ Err (flaw new r)
passed_end closing old new r e f = ap (λ (ts : List Token). passed closing ts r) e ∙ rw f refl

pub ruleset passing_laws = (passed_not, passed_on, passed_fails_on, passed_end)
