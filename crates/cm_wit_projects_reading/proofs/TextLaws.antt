-- The laws of whole texts: what they are by a grammar, in the grammar's own terms.
use Rattle.std.proofs.Common.{◌≡◌, ℕ, List, [], ◌∷◌, length, Option, Some, None, Result, Ok, Err, IfOk, IfErr, ◌⊎◌, inl, inr, refl, sym, ap, ◌∙◌}
use Rattle.cm_wit_tokens.specs.declared.token.Token.{Token}
use Rattle.cm_wit_tokens.specs.declared.fault.WitFault.{WitFault}
use Rattle.cm_wit_tokens.specs.declared.fault.WitReason.{WitReason}
use Rattle.cm_wit_tokens.specs.Exact.{Lawful}
use Rattle.cm_wit_tokens.specs.Faults.{Fault}
use Rattle.cm_wit_tokens.specs.Grammar.{Grammar}
use Rattle.cm_wit_tokens.specs.Reading.{next_form, next_left}
use Rattle.cm_wit_tokens.specs.Whole.{whole, end_fault, place_fault, placed, IsMemory, Answers, IsRefused, place}
use Rattle.cm_wit_tokens.proofs.WholeLaws.{whole_is_text, text_is_whole, whole_refused}
use Rattle.cm_lemmas.proofs.Equations.{err_is, ok_is}
use Rattle.cm_lemmas.proofs.Results.{ok_of}
use Rattle.cm_wit_projects_tokens.specs.Tokens.{lexed}
use Rattle.cm_wit_projects_reading.specs.Texts.{told_reason, told, source_reads, IsSourceOf, IsSourceFault}
use Rattle.cm_wit_projects_reading.proofs.PlaceLaws.{ok_no_err}

-- ---- what is read is a text

told_ok : {A : Type 0} (size : ℕ) (stop : Option ℕ) (r : Result A Fault) (y : A) → placed size stop (told r) ≡ Ok y → (stop ≡ None) × (r ≡ Ok y)
told_ok size None (Ok x) y e = (refl, ap (λ z. ok_of Fault z) (ok_is WitFault x y e))
told_ok size (Some left) (Ok x) y e = absurd cc
told_ok size stop (Err f) y e = absurd cc

pub source_accepted : {A : Type 0} (g : Grammar A) → Lawful g → (text : List ℕ) (x : A) → source_reads g text ≡ Ok x → IsSourceOf g x text
source_accepted g l text x e =
    let k = told_ok (length text) (lexed text).stop (whole g (lexed text).tokens) x e in
    record { all = k.0; spells = whole_is_text g l (lexed text).tokens x k.1 }

pub source_complete : {A : Type 0} (g : Grammar A) → Lawful g → (text : List ℕ) (x : A) → IsSourceOf g x text → source_reads g text ≡ Ok x
source_complete g l text x t = rw (text_is_whole g l (lexed text).tokens x t.spells, t.all) refl

-- ---- what is refused has the fault

nothing_behind : (t : Token) (after : List Token) → t ∷ after ≡ [] → ⊥
nothing_behind t after e = cc

abbrev FaultAt : {A : Type 0} → Grammar A → ℕ → List Token → Option ℕ → WitFault → Type 0
FaultAt g size tokens stop e =
    ((left : ℕ) × (stop ≡ Some left) × (e ≡ end_fault size (Some left)))
    ⊎ ((rest : List Token) × IsRefused g tokens rest × (rest ≡ [] → stop ≡ None) × (e.at ≡ place size rest))

refused_at : {A : Type 0} (g : Grammar A) (size : ℕ) (tokens : List Token) (stop : Option ℕ) (rest : List Token) (r : WitReason) (e : WitFault) → IsRefused g tokens rest → place_fault size stop (next_left rest) r ≡ e → FaultAt g size tokens stop e
refused_at g size tokens None [] r e h p = inr ([], h, λ _. refl, ap (λ (d : WitFault). d.at) (sym p))
refused_at g size tokens (Some left) [] r e h p = inl (left, refl, sym p)
refused_at g size tokens stop (t ∷ ts) r e h p = inr (t ∷ ts, h, λ q. absurd (nothing_behind t ts q), ap (λ (d : WitFault). d.at) (sym p))

told_err : {A : Type 0} (g : Grammar A) (size : ℕ) (tokens : List Token) (stop : Option ℕ) (r : Result A Fault) (e : WitFault) → ((f : Fault) → r ≡ Err f → IsRefused g tokens f.rest) → placed size stop (told r) ≡ Err e → FaultAt g size tokens stop e
told_err g size tokens None (Ok x) e l h = absurd (ok_no_err x e h)
told_err {A} g size tokens (Some left) (Ok x) e l h = inl (left, refl, sym (err_is A (end_fault size (Some left)) e h))
told_err {A} g size tokens stop (Err f) e l h = refused_at g size tokens stop f.rest (told_reason (next_form f.rest) f.reason) e (l f refl) (err_is A (place_fault size stop (next_left f.rest) (told_reason (next_form f.rest) f.reason)) e h)

pub source_refused : {A : Type 0} (g : Grammar A) → Lawful g → (text : List ℕ) (e : WitFault) → source_reads g text ≡ Err e → IsSourceFault g text e
source_refused g l text e h =
    elim (told_err g (length text) (lexed text).tokens (lexed text).stop (whole g (lexed text).tokens) e (λ f q. whole_refused g l (lexed text).tokens f q) h) [
      | inl p ↦ inl (record { left = p.0; stops = p.1; is = p.2 })
      | inr p ↦ inr (record { rest = p.0; refused = p.1; at_end = p.2; is = p.3 })
    ]

-- ---- the same of what a function answered

pub answer_ok : {A X : Type 0} (view : X → A) (wanted : Result A WitFault) (result : Result X WitFault) (P : A → Type 0) → Answers view wanted result → ((x : A) → wanted ≡ Ok x → P x) → IfOk result (λ x. P (view x))
answer_ok view wanted (Ok x) P h p = p (view x) h
answer_ok view wanted (Err e) P h p = tt

pub answer_memory : {A X : Type 0} (view : X → A) (wanted : Result A WitFault) (result : Result X WitFault) (x : A) → Answers view wanted result → wanted ≡ Ok x → IfErr result IsMemory
answer_memory view wanted (Ok y) x h p = tt
answer_memory view wanted (Err e) x h p = elim h [ inl m ↦ m | inr q ↦ absurd (ok_no_err x e (sym p ∙ q)) ]

pub answer_err : {A X : Type 0} (view : X → A) (wanted : Result A WitFault) (result : Result X WitFault) (Q : WitFault → Type 0) → Answers view wanted result → ((e : WitFault) → wanted ≡ Err e → Q e) → IfErr result (λ e. IsMemory e ⊎ Q e)
answer_err view wanted (Ok y) Q h p = tt
answer_err view wanted (Err e) Q h p = elim h [ inl m ↦ inl m | inr q ↦ inr (p e q) ]
