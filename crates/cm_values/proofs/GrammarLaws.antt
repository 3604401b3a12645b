-- The laws of a grammar of texts, and of each step.
use Rattle.std.proofs.Common.{◌≡◌, ℕ, Bool, true, false, if◌then◌else◌, List, [], ◌∷◌, ◌++◌, Result, Ok, Err, refl, sym, ap, subst, ◌∙◌, append_assoc, inl, inr}
use Rattle.std.specs.List.{list_all}
use Rattle.std.proofs.lemmas.Bool.{and_parts, and_from}
use Rattle.cm_values.specs.declared.value_fault.Fault.{Fault}
use Rattle.cm_values.specs.declared.value_fault.ValueReason.{ValueReason}
use Rattle.cm_values.specs.Grammar.{first, Grammar, done, fail, ◌>>=◌, taken, byte_reads, byte, passes, chosen, run_front, run_behind, run, judged, checked}
use Rattle.cm_values.proofs.Tools.{then_ok, first-append, if_ok, parts_behind}
pub use Rattle.cm_values.specs.Exact.{Takes, Lawful}
use Rattle.cm_lemmas.proofs.Equations.{ok_is}
use Rattle.cm_lemmas.proofs.Results.{ok_of}

-- ---- no bytes

pub done_lawful : {A : Type 0} (x : A) → Lawful (done x)
done_lawful {A} x = record {
  takes = λ bytes y rest h.
      let p = ok_is Fault (x, bytes) (y, rest) h in
      record { front = []; spells = (sym (ap (λ (q : A × List ℕ). q.0) p), refl); parts = ap (λ (q : A × List ℕ). q.1) p };
  again = λ y front rest s. rw (s.0, s.1) refl;
}

pub fail_lawful : {A : Type 0} (why : ValueReason) → Lawful (fail {A = A} why)
fail_lawful why = record {
  takes = λ bytes x rest h. absurd cc;
  again = λ x front rest s. absurd s;
}

-- ---- one thing, and then another

pub bind_lawful : {A B : Type 0} (g : Grammar A) (h : A → Grammar B) → Lawful g → ((x : A) → Lawful (h x)) → Lawful (g >>= h)
bind_lawful {A} {B} g h l m = record {
  takes = λ bytes y rest e.
      let q = then_ok (g.reads bytes) (λ (x : A × List ℕ). (h x.0).reads x.1) (y, rest) e in
      let t = l.takes bytes q.0.0 q.0.1 q.1 in
      let u = (m q.0.0).takes q.0.1 y rest q.2 in
      record {
        front = t.front ++ u.front;
        spells = (q.0.0, t.front, u.front, subst (λ n. g.Spells q.0.0 t.front n) (ap first u.parts ∙ first-append u.front rest) t.spells, u.spells, refl);
        parts = parts_behind bytes t.front q.0.1 u.front rest t.parts u.parts;
      };
  again = λ y front rest s.
      let p = l.again s.0 s.1 (s.2 ++ rest) (subst (λ n. g.Spells s.0 s.1 n) (sym (first-append s.2 rest)) s.3) in
      rw (s.5, append_assoc s.1 s.2 rest, p) ((m s.0).again y s.2 rest s.4);
}

-- ---- a byte of a table

taken_ok : {K : Type 0} (bytes : List ℕ) (o : Result K ValueReason) (k : K) (rest : List ℕ) → taken bytes o ≡ Ok (k, rest) → (o ≡ Ok k) × (bytes ≡ rest)
taken_ok {K} bytes (Ok j) k rest e =
    let p = ok_is Fault (j, bytes) (k, rest) e in
    (ap (λ (q : K × List ℕ). ok_of ValueReason q.0) p, ap (λ (q : K × List ℕ). q.1) p)
taken_ok bytes (Err r) k rest e = absurd cc

byte_takes : {K : Type 0} (table : ℕ → Result K ValueReason) (bytes : List ℕ) (k : K) (rest : List ℕ) → byte_reads table bytes ≡ Ok (k, rest) → Takes (byte table) k bytes rest
byte_takes table [] k rest e = absurd cc
byte_takes table (b ∷ bytes) k rest e =
    let p = taken_ok bytes (table b) k rest e in
    record { front = b ∷ []; spells = (b, refl, p.0); parts = ap (λ (z : List ℕ). b ∷ z) p.1 }

pub byte_lawful : {K : Type 0} (table : ℕ → Result K ValueReason) → Lawful (byte table)
byte_lawful table = record {
  takes = byte_takes table;
  again = λ k front rest s. rw (s.1, s.2) refl;
}

-- ---- what the next byte chooses

pub chosen_lawful : {A : Type 0} (test : ℕ → Bool) (g h : Grammar A) → Lawful g → Lawful h → Lawful (chosen test g h)
chosen_lawful {A} test g h l m = record {
  takes = λ bytes x rest e.
      elim (if_ok (passes test (first bytes)) (g.reads bytes) (h.reads bytes) (Ok (x, rest)) e) [
        | inl p ↦
            let t = l.takes bytes x rest p.1 in
            record { front = t.front; spells = inl (ap (passes test) (sym (ap first t.parts ∙ first-append t.front rest)) ∙ p.0, t.spells); parts = t.parts }
        | inr p ↦
            let t = m.takes bytes x rest p.1 in
            record { front = t.front; spells = inr (ap (passes test) (sym (ap first t.parts ∙ first-append t.front rest)) ∙ p.0, t.spells); parts = t.parts }
      ];
  again = λ x front rest s.
      elim s [
        | inl p ↦ let q : passes test (first (front ++ rest)) ≡ true = ap (passes test) (first-append front rest) ∙ p.0 in rw q (l.again x front rest p.1)
        | inr p ↦ let q : passes test (first (front ++ rest)) ≡ false = ap (passes test) (first-append front rest) ∙ p.0 in rw q (m.again x front rest p.1)
      ];
}

-- ---- a run

pub run_parts : (test : ℕ → Bool) (bytes : List ℕ) → bytes ≡ run_front test bytes ++ run_behind test bytes
run_parts test [] = refl
run_parts test (b ∷ bytes) = by (test b) (run_parts test bytes)
  where
    by : (c : Bool) → bytes ≡ run_front test bytes ++ run_behind test bytes → b ∷ bytes ≡ (if c then b ∷ run_front test bytes else []) ++ (if c then run_behind test bytes else b ∷ bytes)
    by true e = ap (λ (z : List ℕ). b ∷ z) e
    by false e = refl

pub run_all : (test : ℕ → Bool) (bytes : List ℕ) → list_all test (run_front test bytes) ≡ true
run_all test [] = refl
run_all test (b ∷ bytes) = by (test b) refl (run_all test bytes)
  where
    by : (c : Bool) → test b ≡ c → list_all test (run_front test bytes) ≡ true → list_all test (if c then b ∷ run_front test bytes else []) ≡ true
    by true e h = and_from _ _ e h
    by false e h = refl

pub run_ends : (test : ℕ → Bool) (bytes : List ℕ) → passes test (first (run_behind test bytes)) ≡ false
run_ends test [] = refl
run_ends test (b ∷ bytes) = by (test b) refl (run_ends test bytes)
  where
    by : (c : Bool) → test b ≡ c → passes test (first (run_behind test bytes)) ≡ false → passes test (first (if c then run_behind test bytes else b ∷ bytes)) ≡ false
    by true e h = h
    by false e h = e

pub run_again : (test : ℕ → Bool) (x rest : List ℕ) → list_all test x ≡ true → passes test (first rest) ≡ false → (run_front test (x ++ rest) ≡ x) × (run_behind test (x ++ rest) ≡ rest)
run_again test [] [] all ends = (refl, refl)
run_again test [] (b ∷ rest) all ends = rw ends (refl, refl)
run_again test (b ∷ x) rest all ends =
    let p = and_parts (test b) (list_all test x) all in
    let q = run_again test x rest p.1 ends in
    rw p.0 (ap (λ (z : List ℕ). b ∷ z) q.0, q.1)

pub run_lawful : (test : ℕ → Bool) → Lawful (run test)
run_lawful test = record {
  takes = λ bytes x rest e.
      let p = ok_is Fault (run_front test bytes, run_behind test bytes) (x, rest) e in
      let a = ap (λ (q : List ℕ × List ℕ). q.0) p in
      let b = ap (λ (q : List ℕ × List ℕ). q.1) p in
      record {
        front = run_front test bytes;
        spells = (a, subst (λ (z : List ℕ). list_all test z ≡ true) a (run_all test bytes), subst (λ (z : List ℕ). passes test (first z) ≡ false) b (run_ends test bytes));
        parts = run_parts test bytes ∙ ap (λ (z : List ℕ). run_front test bytes ++ z) b;
      };
  again = λ x front rest s.
      let q = run_again test x rest s.1 s.2 in
      rw (s.0, q.0, q.1) refl;
}

-- ---- what a table says of a value

judged_ok : {B : Type 0} (bytes rest : List ℕ) (o : Result B ValueReason) (y : B) (behind : List ℕ) → judged bytes rest o ≡ Ok (y, behind) → (o ≡ Ok y) × (rest ≡ behind)
judged_ok {B} bytes rest (Ok z) y behind e =
    let p = ok_is Fault (z, rest) (y, behind) e in
    (ap (λ (q : B × List ℕ). ok_of ValueReason q.0) p, ap (λ (q : B × List ℕ). q.1) p)
judged_ok bytes rest (Err why) y behind e = absurd cc

pub checked_lawful : {A B : Type 0} (g : Grammar A) (table : A → Result B ValueReason) → Lawful g → Lawful (checked g table)
checked_lawful {A} {B} g table l = record {
  takes = λ bytes y rest e.
      let q = then_ok (g.reads bytes) (λ (x : A × List ℕ). judged bytes x.1 (table x.0)) (y, rest) e in
      let j = judged_ok bytes q.0.1 (table q.0.0) y rest q.2 in
      let t = l.takes bytes q.0.0 q.0.1 q.1 in
      record {
        front = t.front;
        spells = (q.0.0, subst (λ (z : List ℕ). g.Spells q.0.0 t.front (first z)) j.1 t.spells, j.0);
        parts = t.parts ∙ ap (λ (z : List ℕ). t.front ++ z) j.1;
      };
  again = λ y front rest s. rw (l.again s.0 front rest s.1, s.2) refl;
}
