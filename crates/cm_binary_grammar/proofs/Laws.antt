-- The laws of a grammar, and of each step.
use Rattle.std.proofs.Common.{◌≡◌, ℕ, zero, suc, ◌-◌, ◌<◌, ◌≤◌, Bool, true, false, cond, ltb, List, [], ◌∷◌, ◌++◌, length, take, drop, Result, Ok, Err, refl, sym, ap, subst, ◌∙◌, append_assoc, arith, inl, inr, ◌⊎◌}
use Rattle.std.proofs.lemmas.Bool.{cases_Bool, cases_eq, ltb-true, ltb-false, lt-ltb, le-ltb, eq-eqb, ne_eqb}
use Rattle.std.proofs.lemmas.List.{length-append, length-take, take_at, take-append-le, drop_at, take-append-drop}
use Rattle.cm_leb.specs.declared.fault.LebFault.{LebFault}
use Rattle.cm_leb.specs.declared.fault.LebFault.TheVariants.{Truncated, TooLong, BadLastBits}
use Rattle.cm_leb.specs.Numbers.{greatest_length, IsTooLong, IsUnsignedFault, IsSignedFault}
use Rattle.cm_leb.specs.NumbersRead.{unsigned_at, signed_at}
use Rattle.cm_leb.proofs.UnsignedLaws.{unsigned_takes, unsigned_again, unsigned_faulty, unsigned_faulty_again}
use Rattle.cm_leb.proofs.SignedLaws.{signed_takes, signed_again, signed_faulty, signed_faulty_again}
use Rattle.cm_binary_grammar.specs.declared.fault.Fault.{Fault}
use Rattle.cm_binary_grammar.specs.declared.fault.End.{End}
use Rattle.cm_binary_grammar.specs.declared.fault.End.TheVariants as end
use Rattle.cm_binary_grammar.specs.Faults.{flaw, later, want}
use Rattle.cm_binary_grammar.specs.Grammar.{Grammar, done, ◌>>=◌, fail, code_answer, code_reads, code, ahead_reads, ahead, number_fault, number_reads, number, signed, raw, check, DifferAt, IsBeginning, fixed_reads, fixed, chain, times, from_stock, vec, stocked, blob}
use Rattle.cm_binary_grammar.proofs.Tools.{IsBytes-after, then_ok, then_err, then_from_ok, then_from_err, cond_ok, cond_err, flaw-later, parts_behind}
use Rattle.cm_lemmas.proofs.Lists.{IsBytes}
use Rattle.cm_lemmas.proofs.Equations.{err_is, ok_is}
use Rattle.cm_lemmas.proofs.Results.{err_of, ok_of}

-- A spelling of x in front, and the rest.
pub record Takes {R A : Type 0} (g : Grammar R A) (x : A) (bytes rest : List ℕ) : Type 0 where
  pub front : List ℕ
  pub spells : g.Spells x front
  pub parts : bytes ≡ front ++ rest

-- A fault is want of a byte where the input ends, or stays the first fault whatever follows.
abbrev pub Stays : {R A : Type 0} → (End R → List ℕ → Result A (Fault R)) → R → List ℕ → Fault R → Type 0
Stays reads r bytes f = (f ≡ flaw 0 r) ⊎ ((e : End _) (more : List ℕ) → reads e (bytes ++ more) ≡ Err (later f (length more)))

-- Reading is exact: it finds what is spelled, gives the first fault, and a fault's place is inside the bytes.
pub record Lawful {R A : Type 0} (g : Grammar R A) : Type 0 where
  pub takes : (e : End R) (bytes : List ℕ) (x : A) (rest : List ℕ) → IsBytes bytes → g.reads e bytes ≡ Ok (x, rest) → Takes g x bytes rest
  pub again : (e : End R) (x : A) (front rest : List ℕ) → g.Spells x front → g.reads e (front ++ rest) ≡ Ok (x, rest)
  pub faulty : (e : End R) (bytes : List ℕ) (f : Fault R) → IsBytes bytes → g.reads e bytes ≡ Err f → g.Faulty e bytes f
  pub faulty_again : (e : End R) (bytes : List ℕ) (f : Fault R) → g.Faulty e bytes f → g.reads e bytes ≡ Err f
  pub within : (e : End R) (bytes : List ℕ) (f : Fault R) → IsBytes bytes → g.reads e bytes ≡ Err f → f.left ≤ length bytes
  pub stays : (r : R) (bytes : List ℕ) (f : Fault R) → IsBytes bytes → g.reads (end.Cut r) bytes ≡ Err f → Stays g.reads r bytes f

-- What is read is read again, whatever follows.
pub ok_stays : {R A : Type 0} (g : Grammar R A) → Lawful g → (e e' : End R) (bytes : List ℕ) (x : A) (rest more : List ℕ) → IsBytes bytes → g.reads e bytes ≡ Ok (x, rest) → g.reads e' (bytes ++ more) ≡ Ok (x, rest ++ more)
ok_stays g l e e' bytes x rest more fits h =
    let t = l.takes e bytes x rest fits h in
    rw (t.parts, append_assoc t.front rest more) (l.again e' x t.front (rest ++ more) t.spells)

-- ---- done, fail

pub done_lawful : {R A : Type 0} (x : A) → Lawful (done {R = R} x)
done_lawful {R} {A} x = record {
  takes = λ e bytes y rest fits h.
      let p = ok_is (Fault R) (x, bytes) (y, rest) h in
      record { front = []; spells = (sym (ap (λ (q : A × List ℕ). q.0) p), refl); parts = ap (λ (q : A × List ℕ). q.1) p };
  again = λ e y front rest s. rw (s.0, s.1) refl;
  faulty = λ e bytes f fits h. absurd cc;
  faulty_again = λ e bytes f h. absurd h;
  within = λ e bytes f fits h. absurd cc;
  stays = λ r bytes f fits h. absurd cc;
}

pub fail_lawful : {R A : Type 0} (reason : R) → Lawful (fail {A = A} reason)
fail_lawful {R} {A} reason = record {
  takes = λ e bytes y rest fits h. absurd cc;
  again = λ e y front rest s. absurd s;
  faulty = λ e bytes f fits h. sym (err_is (A × List ℕ) (flaw (length bytes) reason) f h);
  faulty_again = λ e bytes f h. rw h refl;
  within = λ e bytes f fits h. let p = err_is (A × List ℕ) (flaw (length bytes) reason) f h in rw (← p) (omega arith);
  stays = λ r bytes f fits h. inr (λ e more. let p = err_is (A × List ℕ) (flaw (length bytes) reason) f h in rw (← p) (ap (λ (d : Fault R). err_of (A × List ℕ) d) (flaw-later (length bytes) reason (length more) (length (bytes ++ more)) (length-append bytes more))));
}

-- ---- one thing, and then another

after_length : (bytes front rest : List ℕ) → bytes ≡ front ++ rest → length rest ≤ length bytes
after_length bytes front rest e = omega (arith, simp length-append at (ap length e))

pub bind_lawful : {R A B : Type 0} (g : Grammar R A) (next : A → Grammar R B) → Lawful g → ((x : A) → Lawful (next x)) → Lawful (g >>= next)
bind_lawful {R} {A} {B} g next l m = record {
  takes = λ e bytes y rest fits h.
      let q = then_ok (g.reads e bytes) (λ (x : A × List ℕ). (next x.0).reads e x.1) (y, rest) h in
      let t = l.takes e bytes q.0.0 q.0.1 fits q.1 in
      let u = (m q.0.0).takes e q.0.1 y rest (IsBytes-after bytes t.front q.0.1 t.parts fits) q.2 in
      record {
        front = t.front ++ u.front;
        spells = (q.0.0, t.front, u.front, t.spells, u.spells, refl);
        parts = parts_behind bytes t.front q.0.1 u.front rest t.parts u.parts;
      };
  again = λ e y front rest s.
      rw (s.5, append_assoc s.1 s.2 rest, l.again e s.0 s.1 (s.2 ++ rest) s.3) ((m s.0).again e y s.2 rest s.4);
  faulty = λ e bytes f fits h.
      elim (then_err (g.reads e bytes) (λ (x : A × List ℕ). (next x.0).reads e x.1) f h) [
        | inl q ↦ inl (l.faulty e bytes f fits q)
        | inr q ↦
            let t = l.takes e bytes q.0.0 q.0.1 fits q.1 in
            inr (q.0.0, t.front, q.0.1, t.spells, t.parts, (m q.0.0).faulty e q.0.1 f (IsBytes-after bytes t.front q.0.1 t.parts fits) q.2)
      ];
  faulty_again = λ e bytes f h.
      elim h [
        | inl k ↦ then_from_err (g.reads e bytes) (λ (x : A × List ℕ). (next x.0).reads e x.1) f (l.faulty_again e bytes f k)
        | inr k ↦ rw (k.4, l.again e k.0 k.1 k.2 k.3) ((m k.0).faulty_again e k.2 f k.5)
      ];
  within = λ e bytes f fits h.
      elim (then_err (g.reads e bytes) (λ (x : A × List ℕ). (next x.0).reads e x.1) f h) [
        | inl q ↦ l.within e bytes f fits q
        | inr q ↦
            let t = l.takes e bytes q.0.0 q.0.1 fits q.1 in
            omega (arith, after_length bytes t.front q.0.1 t.parts, (m q.0.0).within e q.0.1 f (IsBytes-after bytes t.front q.0.1 t.parts fits) q.2)
      ];
  stays = λ r bytes f fits h.
      elim (then_err (g.reads (end.Cut r) bytes) (λ (x : A × List ℕ). (next x.0).reads (end.Cut r) x.1) f h) [
        | inl q ↦
            elim (l.stays r bytes f fits q) [
              | inl k ↦ inl k
              | inr k ↦ inr (λ e more. then_from_err (g.reads e (bytes ++ more)) (λ (x : A × List ℕ). (next x.0).reads e x.1) (later f (length more)) (k e more))
            ]
        | inr q ↦
            let t = l.takes (end.Cut r) bytes q.0.0 q.0.1 fits q.1 in
            elim ((m q.0.0).stays r q.0.1 f (IsBytes-after bytes t.front q.0.1 t.parts fits) q.2) [
              | inl k ↦ inl k
              | inr k ↦ inr (λ e more. then_from_ok (g.reads e (bytes ++ more)) (λ (x : A × List ℕ). (next x.0).reads e x.1) (q.0.0, q.0.1 ++ more) (err_of (B × List ℕ) (later f (length more))) (ok_stays g l (end.Cut r) e bytes q.0.0 q.0.1 more fits q.1) (k e more))
            ]
      ];
}

-- ---- a byte of a table

coded_ok : {R K : Type 0} (rest : List ℕ) (t : Result K R) (k : K) (after : List ℕ) → code_answer rest t ≡ Ok (k, after) → (t ≡ Ok k) × (rest ≡ after)
coded_ok {R} {K} rest (Ok j) k after e =
    let p = ok_is (Fault R) (j, rest) (k, after) e in
    (ap (λ (q : K × List ℕ). ok_of R q.0) p, ap (λ (q : K × List ℕ). q.1) p)
coded_ok rest (Err r) k after e = absurd cc

coded_err : {R K : Type 0} (rest : List ℕ) (t : Result K R) (f : Fault R) → code_answer rest t ≡ Err f → (reason : R) × (t ≡ Err reason) × (f ≡ flaw (suc (length rest)) reason)
coded_err rest (Ok j) f e = absurd cc
coded_err {R} {K} rest (Err r) f e = (r, refl, sym (err_is (K × List ℕ) (flaw (suc (length rest)) r) f e))

code_takes : {R K : Type 0} (table : ℕ → Result K R) (e : End R) (bytes : List ℕ) (k : K) (rest : List ℕ) → code_reads table e bytes ≡ Ok (k, rest) → Takes (code table) k bytes rest
code_takes table e [] k rest h = absurd cc
code_takes table e (b ∷ bytes) k rest h =
    let p = coded_ok bytes (table b) k rest h in
    record { front = b ∷ []; spells = (b, refl, p.0); parts = ap (λ (xs : List ℕ). b ∷ xs) p.1 }

code_faulty : {R K : Type 0} (table : ℕ → Result K R) (e : End R) (bytes : List ℕ) (f : Fault R) → code_reads table e bytes ≡ Err f → (code table).Faulty e bytes f
code_faulty {R} {K} table e [] f h = inl (refl, sym (err_is (K × List ℕ) (want e) f h))
code_faulty table e (b ∷ bytes) f h = let p = coded_err bytes (table b) f h in inr (b, bytes, p.0, refl, p.1, p.2)

code_within : {R K : Type 0} (table : ℕ → Result K R) (e : End R) (bytes : List ℕ) (f : Fault R) → code_reads table e bytes ≡ Err f → f.left ≤ length bytes
code_within {R} {K} table e [] f h = let p = err_is (K × List ℕ) (want e) f h in rw (← p) (omega arith)
code_within table e (b ∷ bytes) f h = let p = coded_err bytes (table b) f h in rw (p.2) (omega arith)

coded_later : {R K : Type 0} (rest : List ℕ) (t : Result K R) (reason : R) (f : Fault R) (more : List ℕ) → t ≡ Err reason → f ≡ flaw (suc (length rest)) reason → code_answer (rest ++ more) t ≡ Err (later f (length more))
coded_later {R} {K} rest t reason f more p q = rw (p, q) (ap (λ (d : Fault R). err_of (K × List ℕ) d) (flaw-later (suc (length rest)) reason (length more) (suc (length (rest ++ more))) (omega (arith, length-append rest more))))

code_stays : {R K : Type 0} (table : ℕ → Result K R) (r : R) (bytes : List ℕ) (f : Fault R) → code_reads table (end.Cut r) bytes ≡ Err f → Stays (code_reads table) r bytes f
code_stays {R} {K} table r [] f h = inl (sym (err_is (K × List ℕ) (flaw 0 r) f h))
code_stays {R} {K} table r (b ∷ bytes) f h =
    let p = coded_err bytes (table b) f h in
    inr (λ e more. coded_later bytes (table b) p.0 f more p.1 p.2)

pub code_lawful : {R K : Type 0} (table : ℕ → Result K R) → Lawful (code table)
code_lawful table = record {
  takes = λ e bytes k rest fits h. code_takes table e bytes k rest h;
  again = λ e k front rest s. rw (s.1, s.2) refl;
  faulty = λ e bytes f fits h. code_faulty table e bytes f h;
  faulty_again = λ e bytes f h. elim h [ inl k ↦ rw (k.0, k.1) refl | inr k ↦ rw (k.5, k.3, k.4) refl ];
  within = λ e bytes f fits h. code_within table e bytes f h;
  stays = λ r bytes f fits h. code_stays table r bytes f h;
}

-- ---- what the first byte chooses

ahead_front : {R A : Type 0} (choice : ℕ → Grammar R A) (b : ℕ) (bytes : List ℕ) (x : A) (rest front : List ℕ) → (choice b).Spells x front → b ∷ bytes ≡ front ++ rest → 0 < length front → Takes (ahead choice) x (b ∷ bytes) rest
ahead_front choice b bytes x rest [] s parts some = absurd (omega arith)
ahead_front choice b bytes x rest (c ∷ front) s parts some =
    let same : b ≡ c = cc in
    record { front = c ∷ front; spells = (c, front, refl, subst (λ (n : ℕ). (choice n).Spells x (c ∷ front)) same s); parts = parts }

ahead_takes : {R A : Type 0} (choice : ℕ → Grammar R A) → ((b : ℕ) → Lawful (choice b)) → ((b : ℕ) (x : A) (front : List ℕ) → (choice b).Spells x front → 0 < length front) → (e : End R) (bytes : List ℕ) (x : A) (rest : List ℕ) → IsBytes bytes → ahead_reads choice e bytes ≡ Ok (x, rest) → Takes (ahead choice) x bytes rest
ahead_takes choice l some e [] x rest fits h = absurd cc
ahead_takes choice l some e (b ∷ bytes) x rest fits h =
    let t = (l b).takes e (b ∷ bytes) x rest fits h in
    ahead_front choice b bytes x rest t.front t.spells t.parts (some b x t.front t.spells)

ahead_faulty : {R A : Type 0} (choice : ℕ → Grammar R A) → ((b : ℕ) → Lawful (choice b)) → (e : End R) (bytes : List ℕ) (f : Fault R) → IsBytes bytes → ahead_reads choice e bytes ≡ Err f → (ahead choice).Faulty e bytes f
ahead_faulty {R} {A} choice l e [] f fits h = inl (refl, sym (err_is (A × List ℕ) (want e) f h))
ahead_faulty choice l e (b ∷ bytes) f fits h = inr (b, bytes, refl, (l b).faulty e (b ∷ bytes) f fits h)

ahead_within : {R A : Type 0} (choice : ℕ → Grammar R A) → ((b : ℕ) → Lawful (choice b)) → (e : End R) (bytes : List ℕ) (f : Fault R) → IsBytes bytes → ahead_reads choice e bytes ≡ Err f → f.left ≤ length bytes
ahead_within {R} {A} choice l e [] f fits h = let p = err_is (A × List ℕ) (want e) f h in rw (← p) (omega arith)
ahead_within choice l e (b ∷ bytes) f fits h = (l b).within e (b ∷ bytes) f fits h

ahead_stays : {R A : Type 0} (choice : ℕ → Grammar R A) → ((b : ℕ) → Lawful (choice b)) → (r : R) (bytes : List ℕ) (f : Fault R) → IsBytes bytes → ahead_reads choice (end.Cut r) bytes ≡ Err f → Stays (ahead_reads choice) r bytes f
ahead_stays {R} {A} choice l r [] f fits h = inl (sym (err_is (A × List ℕ) (flaw 0 r) f h))
ahead_stays choice l r (b ∷ bytes) f fits h = (l b).stays r (b ∷ bytes) f fits h

pub ahead_lawful : {R A : Type 0} (choice : ℕ → Grammar R A) → ((b : ℕ) → Lawful (choice b)) → ((b : ℕ) (x : A) (front : List ℕ) → (choice b).Spells x front → 0 < length front) → Lawful (ahead choice)
ahead_lawful choice l some = record {
  takes = ahead_takes choice l some;
  again = λ e x front rest s. rw (s.2) (let k = (l s.0).again e x (s.0 ∷ s.1) rest (subst (λ (b : List ℕ). (choice s.0).Spells x b) s.2 s.3) in k);
  faulty = ahead_faulty choice l;
  faulty_again = λ e bytes f h. elim h [ inl k ↦ rw (k.0, k.1) refl | inr k ↦ rw (k.2) ((l k.0).faulty_again e (k.0 ∷ k.1) f (subst (λ (b : List ℕ). (choice k.0).Faulty e b f) k.2 k.3)) ];
  within = ahead_within choice l;
  stays = ahead_stays choice l;
}

-- ---- numbers

number_ok : {R N : Type 0} (bad : R) (e : End R) (bytes : List ℕ) (t : Result (N × List ℕ) LebFault) (x : N × List ℕ) → number_reads bad e bytes t ≡ Ok x → t ≡ Ok x
number_ok {R} {N} bad e bytes (Ok y) x h = ap (λ (z : N × List ℕ). ok_of LebFault z) (ok_is (Fault R) y x h)
number_ok bad e bytes (Err d) x h = absurd cc

number_err : {R N : Type 0} (bad : R) (e : End R) (bytes : List ℕ) (t : Result (N × List ℕ) LebFault) (f : Fault R) → number_reads bad e bytes t ≡ Err f → (d : LebFault) × (t ≡ Err d) × (number_fault bad e bytes d ≡ f)
number_err bad e bytes (Ok y) f h = absurd cc
number_err {R} {N} bad e bytes (Err d) f h = (d, refl, err_is (N × List ℕ) (number_fault bad e bytes d) f h)

-- What the fault of a number is, by what is wrong with it.
abbrev pub NumberFaulty : {R : Type 0} → (LebFault → List ℕ → Type 0) → R → End R → List ℕ → Fault R → Type 0
NumberFaulty IsFault bad e bytes f = (IsFault Truncated bytes × (f ≡ want e)) ⊎ ((IsFault TooLong bytes ⊎ IsFault BadLastBits bytes) × (f ≡ flaw (length bytes) bad))

number_faulty : {R : Type 0} (IsFault : LebFault → List ℕ → Type 0) (bad : R) (e : End R) (bytes : List ℕ) (d : LebFault) (f : Fault R) → IsFault d bytes → number_fault bad e bytes d ≡ f → NumberFaulty IsFault bad e bytes f
number_faulty IsFault bad e bytes Truncated f h p = inl (h, sym p)
number_faulty IsFault bad e bytes TooLong f h p = inr (inl h, sym p)
number_faulty IsFault bad e bytes BadLastBits f h p = inr (inr h, sym p)

number_faulty_again : {R N : Type 0} (IsFault : LebFault → List ℕ → Type 0) (t : Result (N × List ℕ) LebFault) (bad : R) (e : End R) (bytes : List ℕ) (f : Fault R) → ((d : LebFault) → IsFault d bytes → t ≡ Err d) → NumberFaulty IsFault bad e bytes f → number_reads bad e bytes t ≡ Err f
number_faulty_again IsFault t bad e bytes f given (inl h) = rw (given Truncated h.0, h.1) refl
number_faulty_again IsFault t bad e bytes f given (inr (inl h, p)) = rw (given TooLong h, p) refl
number_faulty_again IsFault t bad e bytes f given (inr (inr h, p)) = rw (given BadLastBits h, p) refl

number_within : {R : Type 0} (bad : R) (e : End R) (bytes : List ℕ) (d : LebFault) (f : Fault R) → number_fault bad e bytes d ≡ f → f.left ≤ length bytes
number_within bad e bytes Truncated f p = rw (← p) (omega arith)
number_within bad e bytes TooLong f p = rw (← p) (omega arith)
number_within bad e bytes BadLastBits f p = rw (← p) (omega arith)

-- A number that is too long, or too large, stays so.
number_stays : {R N : Type 0} (reads : List ℕ → Result (N × List ℕ) LebFault) (bytes : List ℕ) → ((more : List ℕ) (d : LebFault) → (d ≡ Truncated → ⊥) → reads bytes ≡ Err d → reads (bytes ++ more) ≡ Err d) → (bad r : R) (d : LebFault) (f : Fault R) → reads bytes ≡ Err d → number_fault bad (end.Cut r) bytes d ≡ f → Stays (λ e b. number_reads bad e b (reads b)) r bytes f
number_stays reads bytes keeps bad r Truncated f h p = inl (sym p)
number_stays {R} {N} reads bytes keeps bad r TooLong f h p = inr (λ e more. rw (keeps more TooLong (λ q. cc) h, ← p) (ap (λ (g : Fault R). err_of (N × List ℕ) g) (flaw-later (length bytes) bad (length more) (length (bytes ++ more)) (length-append bytes more))))
number_stays {R} {N} reads bytes keeps bad r BadLastBits f h p = inr (λ e more. rw (keeps more BadLastBits (λ q. cc) h, ← p) (ap (λ (g : Fault R). err_of (N × List ℕ) g) (flaw-later (length bytes) bad (length more) (length (bytes ++ more)) (length-append bytes more))))

too_long_stays : (bits : ℕ) (bytes more : List ℕ) → IsTooLong bits bytes → IsTooLong bits (bytes ++ more)
too_long_stays bits bytes more h = (omega (arith, h.0, length-append bytes more), rw (take-append-le (greatest_length bits) bytes more h.0) h.1)

unsigned_keeps : (bytes more : List ℕ) (d : LebFault) → (d ≡ Truncated → ⊥) → IsUnsignedFault 32 d bytes → IsUnsignedFault 32 d (bytes ++ more)
unsigned_keeps bytes more Truncated n h = absurd (n refl)
unsigned_keeps bytes more TooLong n h = too_long_stays 32 bytes more h
unsigned_keeps bytes more BadLastBits n h = record { front = h.front; rest = h.rest ++ more; parts = ap (λ (b : List ℕ). b ++ more) h.parts ∙ append_assoc h.front h.rest more; group = h.group; short = h.short; outside = h.outside }

signed_keeps : (bytes more : List ℕ) (d : LebFault) → (d ≡ Truncated → ⊥) → IsSignedFault 33 d bytes → IsSignedFault 33 d (bytes ++ more)
signed_keeps bytes more Truncated n h = absurd (n refl)
signed_keeps bytes more TooLong n h = too_long_stays 33 bytes more h
signed_keeps bytes more BadLastBits n h = record { front = h.front; rest = h.rest ++ more; parts = ap (λ (b : List ℕ). b ++ more) h.parts ∙ append_assoc h.front h.rest more; group = h.group; short = h.short; outside = h.outside }

pub number_lawful : {R : Type 0} (bad : R) → Lawful (number bad)
number_lawful {R} bad = record {
  takes = λ e bytes n rest fits h.
      let t = unsigned_takes 32 bytes n rest fits (number_ok bad e bytes (unsigned_at 32 bytes) (n, rest) h) in
      record { front = t.front; spells = t.spells; parts = t.parts };
  again = λ e n front rest s. rw (unsigned_again 32 front n rest s) refl;
  faulty = λ e bytes f fits h.
      let p = number_err bad e bytes (unsigned_at 32 bytes) f h in
      number_faulty (IsUnsignedFault 32) bad e bytes p.0 f (unsigned_faulty 32 bytes p.0 fits p.1) p.2;
  faulty_again = λ e bytes f h. number_faulty_again (IsUnsignedFault 32) (unsigned_at 32 bytes) bad e bytes f (λ d k. unsigned_faulty_again 32 bytes d k) h;
  within = λ e bytes f fits h. let p = number_err bad e bytes (unsigned_at 32 bytes) f h in number_within bad e bytes p.0 f p.2;
  stays = λ r bytes f fits h.
      let p = number_err bad (end.Cut r) bytes (unsigned_at 32 bytes) f h in
      number_stays (unsigned_at 32) bytes (λ more d n q. unsigned_faulty_again 32 (bytes ++ more) d (unsigned_keeps bytes more d n (unsigned_faulty 32 bytes d fits q))) bad r p.0 f p.1 p.2;
}

pub signed_lawful : {R : Type 0} (bad : R) → Lawful (signed bad)
signed_lawful {R} bad = record {
  takes = λ e bytes n rest fits h.
      let t = signed_takes 33 bytes n rest fits (number_ok bad e bytes (signed_at 33 bytes) (n, rest) h) in
      record { front = t.front; spells = t.spells; parts = t.parts };
  again = λ e n front rest s. rw (signed_again 33 front n rest s) refl;
  faulty = λ e bytes f fits h.
      let p = number_err bad e bytes (signed_at 33 bytes) f h in
      number_faulty (IsSignedFault 33) bad e bytes p.0 f (signed_faulty 33 bytes p.0 fits p.1) p.2;
  faulty_again = λ e bytes f h. number_faulty_again (IsSignedFault 33) (signed_at 33 bytes) bad e bytes f (λ d k. signed_faulty_again 33 bytes d k) h;
  within = λ e bytes f fits h. let p = number_err bad e bytes (signed_at 33 bytes) f h in number_within bad e bytes p.0 f p.2;
  stays = λ r bytes f fits h.
      let p = number_err bad (end.Cut r) bytes (signed_at 33 bytes) f h in
      number_stays (signed_at 33) bytes (λ more d n q. signed_faulty_again 33 (bytes ++ more) d (signed_keeps bytes more d n (signed_faulty 33 bytes d fits q))) bad r p.0 f p.1 p.2;
}

-- ---- bytes, and values that pass a test

raw_ok : {R : Type 0} (n : ℕ) (d : Fault R) (bytes : List ℕ) (x : List ℕ × List ℕ) → cond (ltb (length bytes) n) (err_of (List ℕ × List ℕ) d) (Ok (take n bytes, drop n bytes)) ≡ Ok x → (n ≤ length bytes) × ((take n bytes, drop n bytes) ≡ x)
raw_ok {R} n d bytes x h =
    elim (cases_Bool (ltb (length bytes) n)) [
      | inl t ↦ let q = rw t at h in absurd cc
      | inr f ↦ (ltb-false _ _ f, ok_is (Fault R) (take n bytes, drop n bytes) x (rw f at h))
    ]

raw_err : {R : Type 0} (n : ℕ) (d f : Fault R) (bytes : List ℕ) → cond (ltb (length bytes) n) (err_of (List ℕ × List ℕ) d) (Ok (take n bytes, drop n bytes)) ≡ Err f → (length bytes < n) × (d ≡ f)
raw_err n d f bytes h =
    elim (cases_Bool (ltb (length bytes) n)) [
      | inl t ↦ (ltb-true _ _ t, err_is (List ℕ × List ℕ) d f (rw t at h))
      | inr g ↦ let q = rw g at h in absurd cc
    ]

pub raw_lawful : {R : Type 0} (n : ℕ) → Lawful (raw {R = R} n)
raw_lawful {R} n = record {
  takes = λ e bytes x rest fits h.
      let q = raw_ok n (want e) bytes (x, rest) h in
      let e0 : take n bytes ≡ x = ap (λ (p : List ℕ × List ℕ). p.0) q.1 in
      let e1 : drop n bytes ≡ rest = ap (λ (p : List ℕ × List ℕ). p.1) q.1 in
      record {
        front = take n bytes;
        spells = (omega (arith, length-take n bytes, q.0), sym e0);
        parts = sym (take-append-drop n bytes) ∙ ap (λ (r : List ℕ). take n bytes ++ r) e1;
      };
  again = λ e x front rest s.
      let t : ltb (length (front ++ rest)) n ≡ false = le-ltb _ _ (omega (arith, length-append front rest, s.0)) in
      rw (t, take_at front rest n s.0, drop_at front rest n s.0, s.1) refl;
  faulty = λ e bytes f fits h. let q = raw_err n (want e) f bytes h in (q.0, sym q.1);
  faulty_again = λ e bytes f h. let t : ltb (length bytes) n ≡ true = lt-ltb _ _ h.0 in rw (t, h.1) refl;
  within = λ e bytes f fits h. let q = raw_err n (want e) f bytes h in rw (← q.1) (omega arith);
  stays = λ r bytes f fits h. let q = raw_err n (flaw 0 r) f bytes h in inl (sym q.1);
}

-- ---- a value that passes a test

test_stays : {R A : Type 0} (b : Bool) (bytes more : List ℕ) (x : A) (f : Fault R) (reason : R) → b ≡ false → flaw (length bytes) reason ≡ f → cond b (ok_of (Fault R) x) (Err (flaw (length (bytes ++ more)) reason)) ≡ Err (later f (length more))
test_stays {R} {A} b bytes more x f reason p q = rw (p, ← q) (ap (λ (g : Fault R). err_of A g) (flaw-later (length bytes) reason (length more) (length (bytes ++ more)) (length-append bytes more)))

pub check_lawful : {R A : Type 0} (test : A → Bool) (reason : R) (g : Grammar R A) → Lawful g → Lawful (check test reason g)
check_lawful {R} {A} test reason g l = record {
  takes = λ e bytes y rest fits h.
      let q = then_ok (g.reads e bytes) (λ (x : A × List ℕ). cond (test x.0) (Ok x) (Err (flaw (length bytes) reason))) (y, rest) h in
      let c = cond_ok (test q.0.0) (flaw (length bytes) reason) q.0 (y, rest) q.2 in
      let t = l.takes e bytes q.0.0 q.0.1 fits q.1 in
      subst (λ (p : A × List ℕ). Takes (check test reason g) p.0 bytes p.1) c.1 (record { front = t.front; spells = (t.spells, c.0); parts = t.parts });
  again = λ e x front rest s. rw (l.again e x front rest s.0, s.1) refl;
  faulty = λ e bytes f fits h.
      elim (then_err (g.reads e bytes) (λ (x : A × List ℕ). cond (test x.0) (Ok x) (Err (flaw (length bytes) reason))) f h) [
        | inl q ↦ inl (l.faulty e bytes f fits q)
        | inr q ↦
            let c = cond_err (test q.0.0) (flaw (length bytes) reason) f q.0 q.2 in
            let t = l.takes e bytes q.0.0 q.0.1 fits q.1 in
            inr (q.0.0, t.front, q.0.1, t.spells, t.parts, c.0, sym c.1)
      ];
  faulty_again = λ e bytes f h.
      elim h [
        | inl k ↦ then_from_err (g.reads e bytes) (λ (x : A × List ℕ). cond (test x.0) (Ok x) (Err (flaw (length bytes) reason))) f (l.faulty_again e bytes f k)
        | inr k ↦ rw (k.6, k.4, l.again e k.0 k.1 k.2 k.3, k.5) refl
      ];
  within = λ e bytes f fits h.
      elim (then_err (g.reads e bytes) (λ (x : A × List ℕ). cond (test x.0) (Ok x) (Err (flaw (length bytes) reason))) f h) [
        | inl q ↦ l.within e bytes f fits q
        | inr q ↦ let c = cond_err (test q.0.0) (flaw (length bytes) reason) f q.0 q.2 in rw (← c.1) (omega arith)
      ];
  stays = λ r bytes f fits h.
      elim (then_err (g.reads (end.Cut r) bytes) (λ (x : A × List ℕ). cond (test x.0) (Ok x) (Err (flaw (length bytes) reason))) f h) [
        | inl q ↦
            elim (l.stays r bytes f fits q) [
              | inl k ↦ inl k
              | inr k ↦ inr (λ e more. then_from_err (g.reads e (bytes ++ more)) (λ (x : A × List ℕ). cond (test x.0) (Ok x) (Err (flaw (length (bytes ++ more)) reason))) (later f (length more)) (k e more))
            ]
        | inr q ↦
            let c = cond_err (test q.0.0) (flaw (length bytes) reason) f q.0 q.2 in
            inr (λ e more. then_from_ok (g.reads e (bytes ++ more)) (λ (x : A × List ℕ). cond (test x.0) (Ok x) (Err (flaw (length (bytes ++ more)) reason))) (q.0.0, q.0.1 ++ more) (err_of (A × List ℕ) (later f (length more))) (ok_stays g l (end.Cut r) e bytes q.0.0 q.0.1 more fits q.1) (test_stays (test q.0.0) bytes more (q.0.0, q.0.1 ++ more) f reason c.0 c.1))
      ];
}

-- ---- a text

pub differ_more : (c : ℕ) (text bytes : List ℕ) (left : ℕ) → DifferAt text bytes left → DifferAt (c ∷ text) (c ∷ bytes) left
differ_more c text bytes left d = record {
  same = c ∷ d.same;
  found = d.found;
  rest = d.rest;
  expected = d.expected;
  tail = d.tail;
  bytes_are = ap (λ (xs : List ℕ). c ∷ xs) d.bytes_are;
  literal_is = ap (λ (xs : List ℕ). c ∷ xs) d.literal_is;
  differ = d.differ;
  place = d.place;
}

pub beginning_more : (c : ℕ) (text bytes : List ℕ) → IsBeginning text bytes → IsBeginning (c ∷ text) (c ∷ bytes)
beginning_more c text bytes h = record { next = h.next; tail = h.tail; literal_is = ap (λ (xs : List ℕ). c ∷ xs) h.literal_is }

fixed_goes_on : {R : Type 0} (c : ℕ) (text : List ℕ) (reason : R) (e : End R) (b : ℕ) (bytes : List ℕ) → b ≡ c → fixed_reads (c ∷ text) reason e (b ∷ bytes) ≡ fixed_reads text reason e bytes
fixed_goes_on c text reason e b bytes h = let t = eq-eqb b c h in rw t refl

fixed_stops : {R : Type 0} (c : ℕ) (text : List ℕ) (reason : R) (e : End R) (b : ℕ) (bytes : List ℕ) → (b ≡ c → ⊥) → fixed_reads (c ∷ text) reason e (b ∷ bytes) ≡ Err (flaw (suc (length bytes)) reason)
fixed_stops c text reason e b bytes h = let t = ne_eqb b c h in rw t refl

fixed_takes : {R : Type 0} (text : List ℕ) (reason : R) (e : End R) (bytes : List ℕ) (rest : List ℕ) → fixed_reads text reason e bytes ≡ Ok (tt {0}, rest) → bytes ≡ text ++ rest
fixed_takes {R} [] reason e bytes rest h = ap (λ (p : Unit {0} × List ℕ). p.1) (ok_is (Fault R) (tt {0}, bytes) (tt {0}, rest) h)
fixed_takes (c ∷ text) reason e [] rest h = absurd cc
fixed_takes (c ∷ text) reason e (b ∷ bytes) rest h =
    elim (cases_eq b c) [
      | inl q ↦ let k = fixed_takes text reason e bytes rest (sym (fixed_goes_on c text reason e b bytes q) ∙ h) in cc
      | inr n ↦ let q = fixed_stops c text reason e b bytes n in absurd cc
    ]

fixed_again : {R : Type 0} (text : List ℕ) (reason : R) (e : End R) (rest : List ℕ) → fixed_reads text reason e (text ++ rest) ≡ Ok (tt {0}, rest)
fixed_again [] reason e rest = refl
fixed_again (c ∷ text) reason e rest = fixed_goes_on c text reason e c (text ++ rest) refl ∙ fixed_again text reason e rest

faulty_more : {R : Type 0} (text : List ℕ) (reason : R) (e : End R) (c : ℕ) (bytes : List ℕ) (f : Fault R) → (fixed text reason).Faulty e bytes f → (fixed (c ∷ text) reason).Faulty e (c ∷ bytes) f
faulty_more text reason e c bytes f (inl h) = inl (beginning_more c text bytes h.0, h.1)
faulty_more text reason e c bytes f (inr h) = inr (h.0, differ_more c text bytes h.0 h.1, h.2)

fixed_faulty : {R : Type 0} (text : List ℕ) (reason : R) (e : End R) (bytes : List ℕ) (f : Fault R) → fixed_reads text reason e bytes ≡ Err f → (fixed text reason).Faulty e bytes f
fixed_faulty [] reason e bytes f h = absurd cc
fixed_faulty {R} (c ∷ text) reason e [] f h = inl (record { next = c; tail = text; literal_is = refl }, sym (err_is (Unit {0} × List ℕ) (want e) f h))
fixed_faulty {R} (c ∷ text) reason e (b ∷ bytes) f h =
    elim (cases_eq b c) [
      | inl q ↦ subst (λ (x : ℕ). (fixed (c ∷ text) reason).Faulty e (x ∷ bytes) f) (sym q) (faulty_more text reason e c bytes f (fixed_faulty text reason e bytes f (sym (fixed_goes_on c text reason e b bytes q) ∙ h)))
      | inr n ↦
          let p = err_is (Unit {0} × List ℕ) (flaw (suc (length bytes)) reason) f (sym (fixed_stops c text reason e b bytes n) ∙ h) in
          inr (suc (length bytes), record { same = []; found = b; rest = bytes; expected = c; tail = text; bytes_are = refl; literal_is = refl; differ = n; place = refl }, sym p)
    ]

fixed_short : {R : Type 0} (bytes : List ℕ) (next : ℕ) (tail : List ℕ) (reason : R) (e : End R) → fixed_reads (bytes ++ next ∷ tail) reason e bytes ≡ Err (want e)
fixed_short [] next tail reason e = refl
fixed_short (b ∷ bytes) next tail reason e = fixed_goes_on b (bytes ++ next ∷ tail) reason e b bytes refl ∙ fixed_short bytes next tail reason e

fixed_differ : {R : Type 0} (same : List ℕ) (found : ℕ) (rest : List ℕ) (expected : ℕ) (tail : List ℕ) (reason : R) (e : End R) → (found ≡ expected → ⊥) → fixed_reads (same ++ expected ∷ tail) reason e (same ++ found ∷ rest) ≡ Err (flaw (suc (length rest)) reason)
fixed_differ [] found rest expected tail reason e n = fixed_stops expected tail reason e found rest n
fixed_differ (b ∷ same) found rest expected tail reason e n = fixed_goes_on b (same ++ expected ∷ tail) reason e b (same ++ found ∷ rest) refl ∙ fixed_differ same found rest expected tail reason e n

pub differ_within : (text bytes : List ℕ) (left : ℕ) → DifferAt text bytes left → left ≤ length bytes
differ_within text bytes left d = omega (arith, d.place, simp length-append at (ap length d.bytes_are))

fixed_within : {R : Type 0} (text : List ℕ) (reason : R) (e : End R) (bytes : List ℕ) (f : Fault R) → (fixed text reason).Faulty e bytes f → f.left ≤ length bytes
fixed_within text reason e bytes f (inl h) = rw (h.1) (omega arith)
fixed_within text reason e bytes f (inr h) = rw (h.2) (differ_within text bytes h.0 h.1)

fixed_faulty_again : {R : Type 0} (text : List ℕ) (reason : R) (e : End R) (bytes : List ℕ) (f : Fault R) → (fixed text reason).Faulty e bytes f → fixed_reads text reason e bytes ≡ Err f
fixed_faulty_again text reason e bytes f (inl h) = rw (h.0.literal_is, h.1) (fixed_short bytes h.0.next h.0.tail reason e)
fixed_faulty_again text reason e bytes f (inr h) =
    rw (h.2, h.1.place, h.1.literal_is, h.1.bytes_are) (fixed_differ h.1.same h.1.found h.1.rest h.1.expected h.1.tail reason e h.1.differ)

fixed_stays : {R : Type 0} (text : List ℕ) (reason r : R) (bytes : List ℕ) (f : Fault R) → (fixed text reason).Faulty (end.Cut r) bytes f → Stays (fixed_reads text reason) r bytes f
fixed_stays text reason r bytes f (inl h) = inl h.1
fixed_stays {R} text reason r bytes f (inr h) =
    let d = h.1 in
    inr (λ e more.
    let parts : bytes ++ more ≡ d.same ++ d.found ∷ (d.rest ++ more) = ap (λ (b : List ℕ). b ++ more) d.bytes_are ∙ append_assoc d.same (d.found ∷ d.rest) more in
    let one = fixed_differ d.same d.found (d.rest ++ more) d.expected d.tail reason e d.differ in
    let place : flaw (suc (length (d.rest ++ more))) reason ≡ later (flaw h.0 reason) (length more) = flaw-later h.0 reason (length more) (suc (length (d.rest ++ more))) (omega (arith, d.place, length-append d.rest more)) in
    rw (h.2, parts, d.literal_is) (one ∙ ap (λ (g : Fault R). err_of (Unit {0} × List ℕ) g) place))

pub fixed_lawful : {R : Type 0} (text : List ℕ) (reason : R) → Lawful (fixed text reason)
fixed_lawful text reason = record {
  takes = λ e bytes x rest fits h. record { front = text; spells = refl; parts = fixed_takes text reason e bytes rest h };
  again = λ e x front rest s. rw s (fixed_again text reason e rest);
  faulty = λ e bytes f fits h. fixed_faulty text reason e bytes f h;
  faulty_again = fixed_faulty_again text reason;
  within = λ e bytes f fits h. fixed_within text reason e bytes f (fixed_faulty text reason e bytes f h);
  stays = λ r bytes f fits h. fixed_stays text reason r bytes f (fixed_faulty text reason (end.Cut r) bytes f h);
}

-- ---- several, one after the other

pub chain_lawful : {R A S : Type 0} (g : S → Grammar R A) (next : S → A → S) → ((s : S) → Lawful (g s)) → (n : ℕ) (s : S) → Lawful (chain g next n s)
chain_lawful g next l zero s = done_lawful []
chain_lawful g next l (suc n) s = bind_lawful (g s) _ (l s) (λ x. bind_lawful (chain g next n (next s x)) _ (chain_lawful g next l n (next s x)) (λ xs. done_lawful (x ∷ xs)))

pub times_lawful : {R A : Type 0} (g : Grammar R A) → Lawful g → (n : ℕ) → Lawful (times g n)
times_lawful g l n = chain_lawful (λ (s : Unit {0}). g) (λ s x. s) (λ s. l) n tt

pub from_stock_lawful : {R A : Type 0} (g : ℕ → Grammar R A) (reason : R) → ((room : ℕ) → Lawful (g room)) → (room : ℕ) → Lawful (from_stock g reason room)
from_stock_lawful g reason l zero = fail_lawful reason
from_stock_lawful g reason l (suc room) = l room

pub vec_lawful : {R A : Type 0} (bad : R) (g : Grammar R A) → Lawful g → Lawful (vec bad g)
vec_lawful bad g l = bind_lawful (number bad) _ (number_lawful bad) (λ n. times_lawful g l n)

pub stocked_lawful : {R A : Type 0} (bad : R) (g : ℕ → Grammar R A) (cost : A → ℕ) → ((stock : ℕ) → Lawful (g stock)) → (stock : ℕ) → Lawful (stocked bad g cost stock)
stocked_lawful bad g cost l stock = bind_lawful (number bad) _ (number_lawful bad) (λ n. chain_lawful g (λ left x. left - cost x) l n stock)

pub blob_lawful : {R : Type 0} (bad : R) → Lawful (blob bad)
blob_lawful bad = bind_lawful (number bad) _ (number_lawful bad) (λ n. raw_lawful n)
