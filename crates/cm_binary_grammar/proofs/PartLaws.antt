-- The laws of parts: bytes that begin with a text, things to the end, a part of so many bytes, and a limit on all of them.
use Rattle.std.proofs.Common.{◌≡◌, ℕ, suc, ◌+◌, ◌-◌, ◌<◌, ◌≤◌, leb, List, [], ◌∷◌, ◌++◌, length, take, drop, Result, Ok, Err, refl, sym, ap, subst, ◌∙◌, append_assoc, arith, inl, inr, ◌⊎◌}
use Rattle.std.proofs.lemmas.Bool.{cases_Bool, cases_eq, leb-true, leb-false, le-leb, lt-leb, eq-eqb, ne_eqb}
use Rattle.std.proofs.lemmas.List.{length-append, length-take, length-drop, take_at, take-append-le, drop_at, take-append-drop}
use Rattle.cm_binary_grammar.specs.declared.fault.Fault.{Fault}
use Rattle.cm_binary_grammar.specs.declared.fault.End.{End}
use Rattle.cm_binary_grammar.specs.declared.fault.End.TheVariants as end
use Rattle.cm_binary_grammar.specs.Faults.{flaw, later, want}
use Rattle.cm_binary_grammar.specs.Grammar.{DifferAt, IsBeginning}
use Rattle.cm_binary_grammar.specs.Whole.{Whole, too_short, begins_with_reads, begins_with, inside, cut_short, of_size}
use Rattle.cm_binary_grammar.proofs.Tools.{IsBytes-take, flaw-later, later-later}
use Rattle.cm_binary_grammar.proofs.Laws.{Takes, Stays, Lawful, differ_more, beginning_more}
use Rattle.cm_binary_grammar.proofs.WholeLaws.{LawfulWhole}
use Rattle.cm_lemmas.proofs.Lists.{IsBytes, both_cons}
use Rattle.cm_lemmas.proofs.Equations.{err_is, ok_is}
use Rattle.cm_lemmas.proofs.Results.{err_of, ok_of}

-- ---- bytes that begin with a text

begun_goes_on : {R : Type 0} (c : ℕ) (text : List ℕ) (reason : R) (e : End R) (bytes : List ℕ) (b : ℕ) (rest : List ℕ) → b ≡ c → begins_with_reads (c ∷ text) reason e bytes (b ∷ rest) ≡ begins_with_reads text reason e bytes rest
begun_goes_on c text reason e bytes b rest h = let t = eq-eqb b c h in rw t refl

begun_stops : {R : Type 0} (c : ℕ) (text : List ℕ) (reason : R) (e : End R) (bytes : List ℕ) (b : ℕ) (rest : List ℕ) → (b ≡ c → ⊥) → begins_with_reads (c ∷ text) reason e bytes (b ∷ rest) ≡ Err (flaw (length bytes) reason)
begun_stops c text reason e bytes b rest h = let t = ne_eqb b c h in rw t refl

begun_ok : {R : Type 0} (text : List ℕ) (reason : R) (e : End R) (bytes rest x : List ℕ) → begins_with_reads text reason e bytes rest ≡ Ok x → (x ≡ bytes) × ((tail : List ℕ) × (rest ≡ text ++ tail))
begun_ok {R} [] reason e bytes rest x h = (sym (ok_is (Fault R) bytes x h), (rest, refl))
begun_ok (c ∷ text) reason e bytes [] x h = absurd cc
begun_ok (c ∷ text) reason e bytes (b ∷ rest) x h =
    elim (cases_eq b c) [
      | inl q ↦
          let k = begun_ok text reason e bytes rest x (sym (begun_goes_on c text reason e bytes b rest q) ∙ h) in
          (k.0, (k.1.0, both_cons b c rest (text ++ k.1.0) q k.1.1))
      | inr n ↦ let q = begun_stops c text reason e bytes b rest n in absurd cc
    ]

begun_again : {R : Type 0} (text : List ℕ) (reason : R) (e : End R) (bytes tail : List ℕ) → begins_with_reads text reason e bytes (text ++ tail) ≡ Ok bytes
begun_again [] reason e bytes tail = refl
begun_again (c ∷ text) reason e bytes tail = begun_goes_on c text reason e bytes c (text ++ tail) refl ∙ begun_again text reason e bytes tail

abbrev BegunFaulty : {R : Type 0} → List ℕ → R → End R → List ℕ → List ℕ → Fault R → Type 0
BegunFaulty text reason e bytes rest f = (IsBeginning text rest × (f ≡ too_short reason e bytes)) ⊎ ((left : ℕ) × DifferAt text rest left × (f ≡ flaw (length bytes) reason))

begun_more : {R : Type 0} (text : List ℕ) (reason : R) (e : End R) (bytes : List ℕ) (c : ℕ) (rest : List ℕ) (f : Fault R) → BegunFaulty text reason e bytes rest f → BegunFaulty (c ∷ text) reason e bytes (c ∷ rest) f
begun_more text reason e bytes c rest f (inl h) = inl (beginning_more c text rest h.0, h.1)
begun_more text reason e bytes c rest f (inr h) = inr (h.0, differ_more c text rest h.0 h.1, h.2)

begun_err : {R : Type 0} (text : List ℕ) (reason : R) (e : End R) (bytes rest : List ℕ) (f : Fault R) → begins_with_reads text reason e bytes rest ≡ Err f → BegunFaulty text reason e bytes rest f
begun_err [] reason e bytes rest f h = absurd cc
begun_err {R} (c ∷ text) reason e bytes [] f h = inl (record { next = c; tail = text; literal_is = refl }, sym (err_is (List ℕ) (too_short reason e bytes) f h))
begun_err {R} (c ∷ text) reason e bytes (b ∷ rest) f h =
    elim (cases_eq b c) [
      | inl q ↦ subst (λ (x : ℕ). BegunFaulty (c ∷ text) reason e bytes (x ∷ rest) f) (sym q) (begun_more text reason e bytes c rest f (begun_err text reason e bytes rest f (sym (begun_goes_on c text reason e bytes b rest q) ∙ h)))
      | inr n ↦
          let p = err_is (List ℕ) (flaw (length bytes) reason) f (sym (begun_stops c text reason e bytes b rest n) ∙ h) in
          inr (suc (length rest), record { same = []; found = b; rest = rest; expected = c; tail = text; bytes_are = refl; literal_is = refl; differ = n; place = refl }, sym p)
    ]

begun_short : {R : Type 0} (rest : List ℕ) (next : ℕ) (tail : List ℕ) (reason : R) (e : End R) (bytes : List ℕ) → begins_with_reads (rest ++ next ∷ tail) reason e bytes rest ≡ Err (too_short reason e bytes)
begun_short [] next tail reason e bytes = refl
begun_short (b ∷ rest) next tail reason e bytes = begun_goes_on b (rest ++ next ∷ tail) reason e bytes b rest refl ∙ begun_short rest next tail reason e bytes

begun_differ : {R : Type 0} (same : List ℕ) (found : ℕ) (rest : List ℕ) (expected : ℕ) (tail : List ℕ) (reason : R) (e : End R) (bytes : List ℕ) → (found ≡ expected → ⊥) → begins_with_reads (same ++ expected ∷ tail) reason e bytes (same ++ found ∷ rest) ≡ Err (flaw (length bytes) reason)
begun_differ [] found rest expected tail reason e bytes n = begun_stops expected tail reason e bytes found rest n
begun_differ (b ∷ same) found rest expected tail reason e bytes n = begun_goes_on b (same ++ expected ∷ tail) reason e bytes b (same ++ found ∷ rest) refl ∙ begun_differ same found rest expected tail reason e bytes n

begun_faulty_again : {R : Type 0} (text : List ℕ) (reason : R) (e : End R) (bytes rest : List ℕ) (f : Fault R) → BegunFaulty text reason e bytes rest f → begins_with_reads text reason e bytes rest ≡ Err f
begun_faulty_again text reason e bytes rest f (inl h) = rw (h.0.literal_is, h.1) (begun_short rest h.0.next h.0.tail reason e bytes)
begun_faulty_again text reason e bytes rest f (inr h) = rw (h.2, h.1.literal_is, h.1.bytes_are) (begun_differ h.1.same h.1.found h.1.rest h.1.expected h.1.tail reason e bytes h.1.differ)

too_short_within : {R : Type 0} (reason : R) (e : End R) (bytes : List ℕ) (f : Fault R) → f ≡ too_short reason e bytes → f.left ≤ length bytes
too_short_within reason (end.Whole r) bytes f h = rw h (omega arith)
too_short_within reason (end.Cut r) bytes f h = rw h (omega arith)

begun_within : {R : Type 0} (text : List ℕ) (reason : R) (e : End R) (bytes rest : List ℕ) (f : Fault R) → BegunFaulty text reason e bytes rest f → f.left ≤ length bytes
begun_within text reason e bytes rest f (inl h) = too_short_within reason e bytes f h.1
begun_within text reason e bytes rest f (inr h) = rw (h.2) (omega arith)

begun_stays : {R : Type 0} (text : List ℕ) (reason r : R) (bytes : List ℕ) (f : Fault R) → BegunFaulty text reason (end.Cut r) bytes bytes f → Stays (begins_with text reason).reads r bytes f
begun_stays text reason r bytes f (inl h) = inl h.1
begun_stays {R} text reason r bytes f (inr h) =
    let d = h.1 in
    inr (λ e more.
    let parts : bytes ++ more ≡ d.same ++ d.found ∷ (d.rest ++ more) = ap (λ (b : List ℕ). b ++ more) d.bytes_are ∙ append_assoc d.same (d.found ∷ d.rest) more in
    let one = begun_differ d.same d.found (d.rest ++ more) d.expected d.tail reason e (bytes ++ more) d.differ in
    let read : begins_with_reads text reason e (bytes ++ more) (bytes ++ more) ≡ Err (flaw (length (bytes ++ more)) reason) = ap (λ (b : List ℕ). begins_with_reads text reason e (bytes ++ more) b) parts ∙ ap (λ (t : List ℕ). begins_with_reads t reason e (bytes ++ more) (d.same ++ d.found ∷ (d.rest ++ more))) d.literal_is ∙ one in
    rw (h.2) (read ∙ ap (λ (g : Fault R). err_of (List ℕ) g) (flaw-later (length bytes) reason (length more) (length (bytes ++ more)) (length-append bytes more))))

pub begins_with_lawful : {R : Type 0} (text : List ℕ) (reason : R) → LawfulWhole (begins_with text reason)
begins_with_lawful {R} text reason = record {
  takes = λ e bytes x fits h. begun_ok text reason e bytes bytes x h;
  again = λ e x bytes s. let k = begun_again text reason e bytes s.1.0 in rw (s.0) (ap (λ (b : List ℕ). begins_with_reads text reason e bytes b) s.1.1 ∙ k);
  faulty = λ e bytes f fits h. begun_err text reason e bytes bytes f h;
  faulty_again = λ e bytes f h. begun_faulty_again text reason e bytes bytes f h;
  within = λ e bytes f fits h. begun_within text reason e bytes bytes f (begun_err text reason e bytes bytes f h);
  stays = λ r bytes f fits h. begun_stays text reason r bytes f (begun_err text reason (end.Cut r) bytes bytes f h);
}

-- ---- a part of so many bytes

inside_ok : {R A : Type 0} (rest : List ℕ) (t : Result A (Fault R)) (x : A) (after : List ℕ) → inside rest t ≡ Ok (x, after) → (t ≡ Ok x) × (rest ≡ after)
inside_ok {R} {A} rest (Ok y) x after h =
    let p = ok_is (Fault R) (y, rest) (x, after) h in
    (ap (λ (q : A × List ℕ). ok_of (Fault R) q.0) p, ap (λ (q : A × List ℕ). q.1) p)
inside_ok rest (Err f) x after h = absurd cc

inside_err : {R A : Type 0} (rest : List ℕ) (t : Result A (Fault R)) (f : Fault R) → inside rest t ≡ Err f → (inner : Fault R) × (t ≡ Err inner) × (f ≡ later inner (length rest))
inside_err rest (Ok y) f h = absurd cc
inside_err {R} {A} rest (Err d) f h = (d, refl, sym (err_is (A × List ℕ) (later d (length rest)) f h))

cut_err : {R A : Type 0} (e : End R) (t : Result A (Fault R)) (f : Fault R) → cut_short e t ≡ Err f → (t ≡ Err f) ⊎ ((x : A) × (t ≡ Ok x) × (f ≡ want e))
cut_err {R} {A} e (Ok x) f h = inr (x, refl, sym (err_is (A × List ℕ) (want e) f h))
cut_err {R} {A} e (Err d) f h = inl (ap (λ (g : Fault R). err_of A g) (err_is (A × List ℕ) d f h))

cut_not_ok : {R A : Type 0} (e : End R) (t : Result A (Fault R)) (x : A × List ℕ) → cut_short e t ≡ Ok x → ⊥
cut_not_ok e (Ok y) x h = cc
cut_not_ok e (Err d) x h = cc

sized_whole : {R A : Type 0} (mismatch : R) (n : ℕ) (w : Whole R A) (e : End R) (bytes : List ℕ) → n ≤ length bytes → (of_size mismatch n w).reads e bytes ≡ inside (drop n bytes) (w.reads (end.Whole mismatch) (take n bytes))
sized_whole mismatch n w e bytes h = let t = le-leb n (length bytes) h in rw t refl

sized_cut : {R A : Type 0} (mismatch : R) (n : ℕ) (w : Whole R A) (e : End R) (bytes : List ℕ) → length bytes < n → (of_size mismatch n w).reads e bytes ≡ cut_short e (w.reads e bytes)
sized_cut mismatch n w e bytes h = let t = lt-leb n (length bytes) h in rw t refl

pub cases_le : (n m : ℕ) → (n ≤ m) ⊎ (m < n)
cases_le n m = elim (cases_Bool (leb n m)) [ inl t ↦ inl (leb-true n m t) | inr f ↦ inr (leb-false n m f) ]

sized_takes : {R A : Type 0} (mismatch : R) (n : ℕ) (w : Whole R A) → LawfulWhole w → (e : End R) (bytes : List ℕ) (x : A) (rest : List ℕ) → IsBytes bytes → (of_size mismatch n w).reads e bytes ≡ Ok (x, rest) → Takes (of_size mismatch n w) x bytes rest
sized_takes mismatch n w l e bytes x rest fits h =
    elim (cases_le n (length bytes)) [
      | inl le ↦
          let q = inside_ok (drop n bytes) (w.reads (end.Whole mismatch) (take n bytes)) x rest (sym (sized_whole mismatch n w e bytes le) ∙ h) in
          record {
            front = take n bytes;
            spells = (omega (arith, length-take n bytes), l.takes (end.Whole mismatch) (take n bytes) x (IsBytes-take n bytes fits) q.0);
            parts = sym (take-append-drop n bytes) ∙ ap (λ (r : List ℕ). take n bytes ++ r) q.1;
          }
      | inr lt ↦ absurd (cut_not_ok e (w.reads e bytes) (x, rest) (sym (sized_cut mismatch n w e bytes lt) ∙ h))
    ]

sized_faulty : {R A : Type 0} (mismatch : R) (n : ℕ) (w : Whole R A) → LawfulWhole w → (e : End R) (bytes : List ℕ) (f : Fault R) → IsBytes bytes → (of_size mismatch n w).reads e bytes ≡ Err f → (of_size mismatch n w).Faulty e bytes f
sized_faulty mismatch n w l e bytes f fits h =
    elim (cases_le n (length bytes)) [
      | inl le ↦
          let q = inside_err (drop n bytes) (w.reads (end.Whole mismatch) (take n bytes)) f (sym (sized_whole mismatch n w e bytes le) ∙ h) in
          inl (take n bytes, drop n bytes, q.0, omega (arith, length-take n bytes), sym (take-append-drop n bytes), l.faulty (end.Whole mismatch) (take n bytes) q.0 (IsBytes-take n bytes fits) q.1, q.2)
      | inr lt ↦
          elim (cut_err e (w.reads e bytes) f (sym (sized_cut mismatch n w e bytes lt) ∙ h)) [
            | inl q ↦ inr (lt, inl (l.faulty e bytes f fits q))
            | inr q ↦ inr (lt, inr (q.0, l.takes e bytes q.0 fits q.1, q.2))
          ]
    ]

sized_faulty_again : {R A : Type 0} (mismatch : R) (n : ℕ) (w : Whole R A) → LawfulWhole w → (e : End R) (bytes : List ℕ) (f : Fault R) → (of_size mismatch n w).Faulty e bytes f → (of_size mismatch n w).reads e bytes ≡ Err f
sized_faulty_again mismatch n w l e bytes f (inl h) =
    let le : n ≤ length (h.0 ++ h.1) = omega (arith, length-append h.0 h.1, h.3) in
    rw (h.4, h.6) (sized_whole mismatch n w e (h.0 ++ h.1) le ∙ rw (take_at h.0 h.1 n h.3, drop_at h.0 h.1 n h.3, l.faulty_again (end.Whole mismatch) h.0 h.2 h.5) refl)
sized_faulty_again mismatch n w l e bytes f (inr (lt, inl h)) = sized_cut mismatch n w e bytes lt ∙ rw (l.faulty_again e bytes f h) refl
sized_faulty_again mismatch n w l e bytes f (inr (lt, inr h)) = sized_cut mismatch n w e bytes lt ∙ rw (l.again e h.0 bytes h.1, h.2) refl

sized_within : {R A : Type 0} (mismatch : R) (n : ℕ) (w : Whole R A) → LawfulWhole w → (e : End R) (bytes : List ℕ) (f : Fault R) → IsBytes bytes → (of_size mismatch n w).reads e bytes ≡ Err f → f.left ≤ length bytes
sized_within mismatch n w l e bytes f fits h =
    elim (cases_le n (length bytes)) [
      | inl le ↦
          let q = inside_err (drop n bytes) (w.reads (end.Whole mismatch) (take n bytes)) f (sym (sized_whole mismatch n w e bytes le) ∙ h) in
          let inner = l.within (end.Whole mismatch) (take n bytes) q.0 (IsBytes-take n bytes fits) q.1 in
          rw (q.2) (omega (arith, inner, length-take n bytes, length-drop n bytes))
      | inr lt ↦
          elim (cut_err e (w.reads e bytes) f (sym (sized_cut mismatch n w e bytes lt) ∙ h)) [
            | inl q ↦ l.within e bytes f fits q
            | inr q ↦ rw (q.2) (omega arith)
          ]
    ]

-- ---- a part: what follows changes nothing but the place

pub part_of : (n : ℕ) (bytes more : List ℕ) → length bytes ≤ n → n ≤ length (bytes ++ more) → take n (bytes ++ more) ≡ bytes ++ take (n - length bytes) more
part_of n bytes more lt le =
    let k = n - length bytes in
    let split : bytes ++ more ≡ (bytes ++ take k more) ++ drop k more = ap (λ (m : List ℕ). bytes ++ m) (sym (take-append-drop k more)) ∙ sym (append_assoc bytes (take k more) (drop k more)) in
    let len : length (bytes ++ take k more) ≡ n = omega (arith, length-append bytes (take k more), length-take k more, length-append bytes more) in
    ap (take n) split ∙ take_at (bytes ++ take k more) (drop k more) n len

pub later_twice : {R : Type 0} (inner f : Fault R) (behind more all : ℕ) → f ≡ later inner behind → all ≡ behind + more → later inner all ≡ later f more
later_twice inner f behind more all p q = rw (p, q) (sym (later-later inner behind more (behind + more) refl))

inside_later : {R A : Type 0} (rest : List ℕ) (t : Result A (Fault R)) (inner out : Fault R) → t ≡ Err inner → later inner (length rest) ≡ out → inside rest t ≡ Err out
inside_later {R} {A} rest t inner out p q = rw (p) (ap (λ (g : Fault R). err_of (A × List ℕ) g) q)

-- A fault that stays whatever follows stays where the part becomes whole, and where it does not.
sized_grown : {R A : Type 0} (mismatch : R) (n : ℕ) (w : Whole R A) (bytes : List ℕ) (f : Fault R) → length bytes < n → ((e : End R) (more : List ℕ) → w.reads e (bytes ++ more) ≡ Err (later f (length more))) → (e : End R) (more : List ℕ) → (of_size mismatch n w).reads e (bytes ++ more) ≡ Err (later f (length more))
sized_grown {R} {A} mismatch n w bytes f lt k e more =
    elim (cases_le n (length (bytes ++ more))) [
      | inl le ↦
          let part = take (n - length bytes) more in
          let behind : length (drop n (bytes ++ more)) ≡ length more - (n - length bytes) = omega (arith, length-drop n (bytes ++ more), length-append bytes more) in
          let sum : length part + length (drop n (bytes ++ more)) ≡ length more = omega (arith, behind, length-take (n - length bytes) more, length-append bytes more) in
          sized_whole mismatch n w e (bytes ++ more) le ∙ inside_later (drop n (bytes ++ more)) (w.reads (end.Whole mismatch) (take n (bytes ++ more))) (later f (length part)) (later f (length more)) (ap (w.reads (end.Whole mismatch)) (part_of n bytes more (omega arith) le) ∙ k (end.Whole mismatch) part) (later-later f (length part) (length (drop n (bytes ++ more))) (length more) sum)
      | inr short ↦ sized_cut mismatch n w e (bytes ++ more) short ∙ rw (k e more) refl
    ]

sized_stays : {R A : Type 0} (mismatch : R) (n : ℕ) (w : Whole R A) → LawfulWhole w → (r : R) (bytes : List ℕ) (f : Fault R) → IsBytes bytes → (of_size mismatch n w).reads (end.Cut r) bytes ≡ Err f → Stays (of_size mismatch n w).reads r bytes f
sized_stays {R} {A} mismatch n w l r bytes f fits h =
    elim (cases_le n (length bytes)) [
      | inl le ↦
          let q = inside_err (drop n bytes) (w.reads (end.Whole mismatch) (take n bytes)) f (sym (sized_whole mismatch n w (end.Cut r) bytes le) ∙ h) in
          inr (λ e more.
          let le' : n ≤ length (bytes ++ more) = omega (arith, length-append bytes more, le) in
          let behind : length (drop n (bytes ++ more)) ≡ length (drop n bytes) + length more = omega (arith, length-drop n (bytes ++ more), length-drop n bytes, length-append bytes more) in
          sized_whole mismatch n w e (bytes ++ more) le' ∙ inside_later (drop n (bytes ++ more)) (w.reads (end.Whole mismatch) (take n (bytes ++ more))) q.0 (later f (length more)) (ap (w.reads (end.Whole mismatch)) (take-append-le n bytes more le) ∙ q.1) (later_twice q.0 f (length (drop n bytes)) (length more) (length (drop n (bytes ++ more))) q.2 behind))
      | inr lt ↦
          elim (cut_err (end.Cut r) (w.reads (end.Cut r) bytes) f (sym (sized_cut mismatch n w (end.Cut r) bytes lt) ∙ h)) [
            | inr q ↦ inl q.2
            | inl q ↦
                elim (l.stays r bytes f fits q) [
                  | inl k ↦ inl k
                  | inr k ↦ inr (λ e more. sized_grown mismatch n w bytes f lt k e more)
                ]
          ]
    ]

pub of_size_lawful : {R A : Type 0} (mismatch : R) (n : ℕ) (w : Whole R A) → LawfulWhole w → Lawful (of_size mismatch n w)
of_size_lawful mismatch n w l = record {
  takes = sized_takes mismatch n w l;
  again = λ e x front rest s.
      let le : n ≤ length (front ++ rest) = omega (arith, length-append front rest, s.0) in
      sized_whole mismatch n w e (front ++ rest) le ∙ rw (take_at front rest n s.0, drop_at front rest n s.0, l.again (end.Whole mismatch) x front s.1) refl;
  faulty = sized_faulty mismatch n w l;
  faulty_again = sized_faulty_again mismatch n w l;
  within = sized_within mismatch n w l;
  stays = sized_stays mismatch n w l;
}
