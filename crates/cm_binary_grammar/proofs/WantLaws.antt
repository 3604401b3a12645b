-- Want of a byte stands where the bytes end: a fault of its reason is at the end, and nowhere else.
use Rattle.std.proofs.Common.{◌≡◌, ℕ, zero, suc, List, [], ◌∷◌, length, drop, Bool, Result, Err, refl, sym, ap, ◌∙◌, inl, inr}
use Rattle.cm_binary_grammar.specs.declared.fault.Fault.{Fault}
use Rattle.cm_binary_grammar.specs.declared.fault.End.{End}
use Rattle.cm_binary_grammar.specs.declared.fault.End.TheVariants as end
use Rattle.cm_binary_grammar.specs.Faults.{flaw, later, want, want_reason}
use Rattle.cm_binary_grammar.specs.Grammar.{Grammar, done, ◌>>=◌, fail, code, ahead, number, signed, raw, check, fixed, chain, times, from_stock, vec, blob}
use Rattle.cm_binary_grammar.specs.Whole.{Whole, build, remainder, exactly, join, too_short, begins_with, to_end, of_size, at_most, state_after}
use Rattle.cm_lemmas.proofs.Results.{err_of}

-- A fault of the reason r is the want of a byte where the bytes end, and they end for that reason.
pub record Ends {R A : Type 0} (r : R) (g : Grammar R A) : Type 0 where
  pub at_end : (e : End R) (bytes : List ℕ) (f : Fault R) → g.Faulty e bytes f → f.reason ≡ r → f ≡ want e

pub record EndsWhole {R A : Type 0} (r : R) (w : Whole R A) : Type 0 where
  pub at_end : (e : End R) (bytes : List ℕ) (f : Fault R) → w.Faulty e bytes f → f.reason ≡ r → f ≡ want e

-- The table refuses no byte for this reason.
abbrev pub Never : {R K : Type 0} → R → (ℕ → Result K R) → Type 0
Never r table = (b : ℕ) → table b ≡ Err r → ⊥

-- A fault of another reason has not this one.
not_this : {R : Type 0} (r reason : R) (left : ℕ) (f : Fault R) → (reason ≡ r → ⊥) → f ≡ flaw left reason → f.reason ≡ r → ⊥
not_this {R} r reason left f other is h = other (sym (ap (λ (d : Fault R). d.reason) is) ∙ h)

-- ---- things at the front

pub done_ends : {R A : Type 0} (r : R) (x : A) → Ends r (done x)
done_ends r x = record { at_end = λ e bytes f h k. absurd h }

pub bind_ends : {R A B : Type 0} (r : R) (g : Grammar R A) (next : A → Grammar R B) → Ends r g → ((x : A) → Ends r (next x)) → Ends r (g >>= next)
bind_ends r g next l m = record {
  at_end = λ e bytes f h k.
      elim h [
        | inl q ↦ l.at_end e bytes f q k
        | inr q ↦ (m q.0).at_end e q.2 f q.5 k
      ];
}

pub fail_ends : {R A : Type 0} (r reason : R) → (reason ≡ r → ⊥) → Ends r (fail {A = A} reason)
fail_ends r reason other = record { at_end = λ e bytes f h k. absurd (not_this r reason _ f other h k) }

pub code_ends : {R K : Type 0} (r : R) (table : ℕ → Result K R) → Never r table → Ends r (code table)
code_ends {R} {K} r table never = record {
  at_end = λ e bytes f h k.
      elim h [
        | inl q ↦ q.1
        | inr q ↦ absurd (never q.0 (q.4 ∙ ap (λ (s : R). err_of K s) (sym (ap (λ (d : Fault R). d.reason) q.5) ∙ k)))
      ];
}

pub ahead_ends : {R A : Type 0} (r : R) (choice : ℕ → Grammar R A) → ((b : ℕ) → Ends r (choice b)) → Ends r (ahead choice)
ahead_ends r choice l = record {
  at_end = λ e bytes f h k.
      elim h [
        | inl q ↦ q.1
        | inr q ↦ (l q.0).at_end e bytes f q.3 k
      ];
}

pub number_ends : {R : Type 0} (r bad : R) → (bad ≡ r → ⊥) → Ends r (number bad)
number_ends r bad other = record {
  at_end = λ e bytes f h k.
      elim h [
        | inl q ↦ q.1
        | inr q ↦ absurd (not_this r bad _ f other q.1 k)
      ];
}

pub signed_ends : {R : Type 0} (r bad : R) → (bad ≡ r → ⊥) → Ends r (signed bad)
signed_ends r bad other = record {
  at_end = λ e bytes f h k.
      elim h [
        | inl q ↦ q.1
        | inr q ↦ absurd (not_this r bad _ f other q.1 k)
      ];
}

pub raw_ends : {R : Type 0} (r : R) (n : ℕ) → Ends r (raw n)
raw_ends r n = record { at_end = λ e bytes f h k. h.1 }

pub check_ends : {R A : Type 0} (r : R) (test : A → Bool) (reason : R) (g : Grammar R A) → (reason ≡ r → ⊥) → Ends r g → Ends r (check test reason g)
check_ends r test reason g other l = record {
  at_end = λ e bytes f h k.
      elim h [
        | inl q ↦ l.at_end e bytes f q k
        | inr q ↦ absurd (not_this r reason _ f other q.6 k)
      ];
}

pub fixed_ends : {R : Type 0} (r : R) (literal : List ℕ) (reason : R) → (reason ≡ r → ⊥) → Ends r (fixed literal reason)
fixed_ends r literal reason other = record {
  at_end = λ e bytes f h k.
      elim h [
        | inl q ↦ q.1
        | inr q ↦ absurd (not_this r reason _ f other q.2 k)
      ];
}

pub chain_ends : {R A S : Type 0} (r : R) (g : S → Grammar R A) (next : S → A → S) → ((s : S) → Ends r (g s)) → (n : ℕ) (s : S) → Ends r (chain g next n s)
chain_ends r g next l zero s = done_ends r []
chain_ends r g next l (suc n) s = bind_ends r (g s) _ (l s) (λ x. bind_ends r (chain g next n (next s x)) _ (chain_ends r g next l n (next s x)) (λ xs. done_ends r (x ∷ xs)))

pub times_ends : {R A : Type 0} (r : R) (g : Grammar R A) → Ends r g → (n : ℕ) → Ends r (times g n)
times_ends r g l n = chain_ends r (λ (s : Unit {0}). g) (λ s x. s) (λ s. l) n tt

pub from_stock_ends : {R A : Type 0} (r : R) (g : ℕ → Grammar R A) (reason : R) → (reason ≡ r → ⊥) → ((room : ℕ) → Ends r (g room)) → (room : ℕ) → Ends r (from_stock g reason room)
from_stock_ends r g reason other l zero = fail_ends r reason other
from_stock_ends r g reason other l (suc room) = l room

pub vec_ends : {R A : Type 0} (r bad : R) (g : Grammar R A) → (bad ≡ r → ⊥) → Ends r g → Ends r (vec bad g)
vec_ends r bad g other l = bind_ends r (number bad) _ (number_ends r bad other) (λ n. times_ends r g l n)

pub blob_ends : {R : Type 0} (r bad : R) → (bad ≡ r → ⊥) → Ends r (blob bad)
blob_ends r bad other = bind_ends r (number bad) _ (number_ends r bad other) (λ n. raw_ends r n)

-- ---- bytes to their end

pub build_ends : {R A B : Type 0} (r : R) (f : A → B) (w : Whole R A) → EndsWhole r w → EndsWhole r (build f w)
build_ends r f w l = record { at_end = l.at_end }

pub remainder_ends : {R : Type 0} (r : R) → EndsWhole r remainder
remainder_ends r = record { at_end = λ e bytes f h k. absurd h }

pub exactly_ends : {R A : Type 0} (r surplus : R) (g : Grammar R A) → (surplus ≡ r → ⊥) → Ends r g → EndsWhole r (exactly surplus g)
exactly_ends r surplus g other l = record {
  at_end = λ e bytes f h k.
      elim h [
        | inl q ↦ l.at_end e bytes f q k
        | inr q ↦ absurd (not_this r surplus _ f other q.6 k)
      ];
}

pub join_ends : {R A B : Type 0} (r : R) (g : Grammar R A) (next : A → Whole R B) → Ends r g → ((x : A) → EndsWhole r (next x)) → EndsWhole r (join g next)
join_ends r g next l m = record {
  at_end = λ e bytes f h k.
      elim h [
        | inl q ↦ l.at_end e bytes f q k
        | inr q ↦ (m q.0).at_end e q.2 f q.5 k
      ];
}

short_ends : {R : Type 0} (r reason : R) (e : End R) (bytes : List ℕ) (f : Fault R) → (reason ≡ r → ⊥) → f ≡ too_short reason e bytes → f.reason ≡ r → f ≡ want e
short_ends r reason (end.Whole s) bytes f other h k = absurd (not_this r reason _ f other h k)
short_ends r reason (end.Cut s) bytes f other h k = h

pub begins_with_ends : {R : Type 0} (r : R) (literal : List ℕ) (reason : R) → (reason ≡ r → ⊥) → EndsWhole r (begins_with literal reason)
begins_with_ends r literal reason other = record {
  at_end = λ e bytes f h k.
      elim h [
        | inl q ↦ short_ends r reason e bytes f other q.1 k
        | inr q ↦ absurd (not_this r reason _ f other q.2 k)
      ];
}

pub to_end_ends : {R A S : Type 0} (r : R) (g : S → Grammar R A) (next : S → A → S) → ((s : S) → Ends r (g s)) → (s : S) → EndsWhole r (to_end g next s)
to_end_ends r g next l s = record { at_end = λ e bytes f h k. (l (state_after next s h.0)).at_end e h.2 f h.6 k }

-- A fault of a part that ends for another reason has not this one.
pub inside_ends : {R A : Type 0} (r other : R) (w : Whole R A) (e : End R) (bytes : List ℕ) (more : ℕ) (inner f : Fault R) → want_reason e ≡ other → (other ≡ r → ⊥) → EndsWhole r w → w.Faulty e bytes inner → f ≡ later inner more → f.reason ≡ r → ⊥
inside_ends {R} r other w e bytes more inner f ends differ l h is k =
    let reason : inner.reason ≡ r = sym (ap (λ (d : Fault R). d.reason) is) ∙ k in
    differ (sym ends ∙ (sym (ap (λ (d : Fault R). d.reason) (l.at_end e bytes inner h reason)) ∙ reason))

pub of_size_ends : {R A : Type 0} (r mismatch : R) (n : ℕ) (w : Whole R A) → (mismatch ≡ r → ⊥) → EndsWhole r w → Ends r (of_size mismatch n w)
of_size_ends r mismatch n w other l = record {
  at_end = λ e bytes f h k.
      elim h [
        | inl q ↦ absurd (inside_ends r mismatch w (end.Whole mismatch) q.0 _ q.2 f refl other l q.5 q.6 k)
        | inr q ↦
            elim q.1 [
              | inl p ↦ l.at_end e bytes f p k
              | inr p ↦ p.2
            ]
      ];
}

pub at_most_ends : {R A : Type 0} (r : R) (limit : ℕ) (reason : R) (w : Whole R A) → (reason ≡ r → ⊥) → EndsWhole r w → EndsWhole r (at_most limit reason w)
at_most_ends {R} r limit reason w other l = record {
  at_end = λ e bytes f h k.
      elim h [
        | inl q ↦ l.at_end e bytes f q.1 k
        | inr q ↦
            elim q.1.1 [
              | inl p ↦ absurd (inside_ends r reason w (end.Cut reason) _ _ q.1.0 f refl other l p q.1.2 k)
              | inr p ↦ absurd (not_this r reason _ f other (q.1.2 ∙ ap (λ (d : Fault R). later d (length (drop limit bytes))) p.2) k)
            ]
      ];
}
