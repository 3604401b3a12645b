-- What loops read is what the grammar reads.
use Rattle.std.proofs.Common.{sym, ap, append_assoc, ◌≡◌, ℕ, suc, ◌+◌, ◌-◌, ◌<◌, ◌≤◌, true, false, leb, List, [], ◌∷◌, ◌++◌, length, map, take, drop, Result, Ok, Err, refl, subst, ◌∙◌, arith, inl, inr}
use Rattle.std.proofs.lemmas.Bool.{cases_Bool, leb-false}
use Rattle.std.proofs.lemmas.List.{length-drop, take_all, append-nil, nil_from_length, map_push}
use Rattle.cm_binary_grammar.specs.declared.fault.End.TheVariants as end
use Rattle.cm_binary_grammar.specs.declared.fault.Fault.{Fault}
use Rattle.cm_binary_grammar.specs.declared.fault.End.{End}
use Rattle.cm_binary_grammar.specs.declared.fault.ReadError.{ReadError}
use Rattle.cm_binary_grammar.specs.declared.fault.ReadError.TheVariants as errors
use Rattle.cm_binary_grammar.specs.Faults.{and_then, Fails, Gives}
use Rattle.cm_binary_grammar.specs.Grammar.{Grammar, chain}
use Rattle.cm_binary_grammar.specs.Whole.{Whole, of_size, to_end}
use Rattle.cm_binary_grammar.specs.Reading.{part_end, IsInside, behind_part}
use Rattle.cm_binary_grammar.proofs.Laws.{Lawful}
use Rattle.cm_binary_grammar.proofs.EndLaws.{IsNonempty, and_more, to_end_turn, to_end_stops}
use Rattle.cm_binary_grammar.proofs.WholeLaws.{LawfulWhole}
use Rattle.cm_lemmas.proofs.Lists.{IsBytes}
use Rattle.cm_lemmas.proofs.Results.{ok_of}

-- ---- a loop over a count, with a state

-- What was read before, and what is still read.
abbrev pub with_front : {A E : Type 0} → List A → Result (List A × List ℕ) E → Result (List A × List ℕ) E
with_front front t = and_then t (λ x. Ok (front ++ x.0, x.1))

regroup : {A E : Type 0} (front : List A) (x : A) (t : Result (List A × List ℕ) E) → with_front front (and_then t (λ xs. Ok (x ∷ xs.0, xs.1))) ≡ with_front (front ++ x ∷ []) t
regroup {A} {E} front x (Ok xs) = ap (λ (ys : List A). ok_of E (ys, xs.1)) (sym (append_assoc front (x ∷ []) xs.0))
regroup front x (Err f) = refl

-- Another one was read.
pub chain_more : {R A S : Type 0} (g : S → Grammar R A) (next : S → A → S) (front : List A) (m n : ℕ) (s after : S) (e : End R) (bytes : List ℕ) (x : A) (behind : List ℕ) (total : Result (List A × List ℕ) (Fault R)) → m ≡ suc n → next s x ≡ after → (g s).reads e bytes ≡ Ok (x, behind) → with_front front ((chain g next m s).reads e bytes) ≡ total → with_front (front ++ x ∷ []) ((chain g next n after).reads e behind) ≡ total
chain_more g next front m n s after e bytes x behind total p q h so_far =
    let one : with_front front ((chain g next m s).reads e bytes) ≡ with_front (front ++ x ∷ []) ((chain g next n after).reads e behind) = rw (p, h, q) (regroup front x ((chain g next n after).reads e behind)) in
    sym one ∙ so_far

-- The next one failed.
pub chain_fails : {R A S : Type 0} (g : S → Grammar R A) (next : S → A → S) (front : List A) (m n : ℕ) (s : S) (e : End R) (bytes : List ℕ) (err : ReadError R) (total : Result (List A × List ℕ) (Fault R)) → m ≡ suc n → Fails err ((g s).reads e bytes) → with_front front ((chain g next m s).reads e bytes) ≡ total → Fails err total
chain_fails g next front m n s e bytes errors.Memory total p h so_far = tt {0}
chain_fails {R} {A} {S} g next front m n s e bytes (errors.Fault f) total p h so_far =
    let one : with_front front ((chain g next m s).reads e bytes) ≡ Err f = rw (p, h) refl in
    sym so_far ∙ one

-- A turn of a loop in code, whose values the view shows.
pub chain_turn : {R A S X : Type 0} (g : S → Grammar R A) (next : S → A → S) (view : X → A) (items pushed : List X) (x : X) (count i : ℕ) (s behind_s : S) (e behind_e : End R) (bytes behind : List ℕ) (total : Result (List A × List ℕ) (Fault R))
    → pushed ≡ items ++ x ∷ [] → behind_e ≡ e → behind_s ≡ next s (view x) → i < count
    → (g s).reads e bytes ≡ Ok (view x, behind)
    → with_front (map view items) ((chain g next (count - i) s).reads e bytes) ≡ total
    → with_front (map view pushed) ((chain g next (count - (i + 1)) behind_s).reads behind_e behind) ≡ total
chain_turn g next view items pushed x count i s behind_s e behind_e bytes behind total push same state lt h so_far =
    let more = chain_more g next (map view items) (count - i) (count - (i + 1)) s (next s (view x)) e bytes (view x) behind total (omega arith) refl h so_far in
    rw (push, map_push view items x, same, state) more

pub chain_stops : {R A S X : Type 0} (g : S → Grammar R A) (next : S → A → S) (view : X → A) (items : List X) (count i : ℕ) (s : S) (e : End R) (bytes : List ℕ) (err : ReadError R) (total : Result (List A × List ℕ) (Fault R))
    → i < count → Fails err ((g s).reads e bytes)
    → with_front (map view items) ((chain g next (count - i) s).reads e bytes) ≡ total → Fails err total
chain_stops g next view items count i s e bytes err total lt h so_far = chain_fails g next (map view items) (count - i) (count - (i + 1)) s e bytes err total (omega arith) h so_far

-- ---- a loop to the end, with a state

abbrev pub with_each : {A E : Type 0} → List A → Result (List A) E → Result (List A) E
with_each front t = and_then t (λ xs. Ok (front ++ xs))

regroup_each : {A E : Type 0} (front : List A) (x : A) (t : Result (List A) E) → with_each front (and_more x t) ≡ with_each (front ++ x ∷ []) t
regroup_each {A} {E} front x (Ok xs) = ap (λ (ys : List A). ok_of E ys) (sym (append_assoc front (x ∷ []) xs))
regroup_each front x (Err f) = refl

pub to_end_more : {R A S : Type 0} (g : S → Grammar R A) (next : S → A → S) → ((s : S) → Lawful (g s)) → ((s : S) → IsNonempty (g s)) → (front : List A) (s : S) (e : End R) (bytes : List ℕ) (x : A) (behind : List ℕ) (total : Result (List A) (Fault R)) → IsBytes bytes → 0 < length bytes → (g s).reads e bytes ≡ Ok (x, behind) → with_each front ((to_end g next s).reads e bytes) ≡ total → with_each (front ++ x ∷ []) ((to_end g next (next s x)).reads e behind) ≡ total
to_end_more {R} {A} {S} g next l some front s e bytes x behind total fits h k so_far =
    let turn = to_end_turn g next l some s e bytes x behind fits h k in
    let one : with_each front ((to_end g next s).reads e bytes) ≡ with_each (front ++ x ∷ []) ((to_end g next (next s x)).reads e behind) = ap (with_each front) turn ∙ regroup_each front x ((to_end g next (next s x)).reads e behind) in
    sym one ∙ so_far

pub to_end_fails : {R A S : Type 0} (g : S → Grammar R A) (next : S → A → S) → ((s : S) → Lawful (g s)) → ((s : S) → IsNonempty (g s)) → (front : List A) (s : S) (e : End R) (bytes : List ℕ) (err : ReadError R) (total : Result (List A) (Fault R)) → 0 < length bytes → Fails err ((g s).reads e bytes) → with_each front ((to_end g next s).reads e bytes) ≡ total → Fails err total
to_end_fails g next l some front s e bytes errors.Memory total h k so_far = tt {0}
to_end_fails {R} {A} {S} g next l some front s e bytes (errors.Fault f) total h k so_far =
    let one : with_each front ((to_end g next s).reads e bytes) ≡ Err f = ap (with_each front) (to_end_stops g next l some s e bytes f h k) in
    sym so_far ∙ one

pub to_end_done : {R A S : Type 0} (g : S → Grammar R A) (next : S → A → S) (front : List A) (s : S) (e : End R) (bytes : List ℕ) (total : Result (List A) (Fault R)) → length bytes ≡ 0 → with_each front ((to_end g next s).reads e bytes) ≡ total → total ≡ Ok front
to_end_done {R} {A} {S} g next front s e bytes total h so_far =
    let none : bytes ≡ [] = nil_from_length bytes h in
    let one : with_each front ((to_end g next s).reads e bytes) ≡ Ok front = rw none (ap (λ (ys : List A). ok_of (Fault R) ys) (append-nil front)) in
    sym so_far ∙ one

-- ---- parts

sized_inside : {R A X : Type 0} (mismatch : R) (size : ℕ) (w : Whole R A) (view : X → A) (e : End R) (bytes rest : List ℕ) (r : Result X (ReadError R)) → leb size (length bytes) ≡ true → rest ≡ drop size bytes → Gives view r (w.reads (end.Whole mismatch) (take size bytes)) → Gives (λ x. (view x, rest)) (behind_part size e bytes r) ((of_size mismatch size w).reads e bytes)
sized_inside mismatch size w view e bytes rest (Ok x) t s h = rw (t, h, s) refl
sized_inside mismatch size w view e bytes rest (Err errors.Memory) t s h = tt {0}
sized_inside {R} {A} {X} mismatch size w view e bytes rest (Err (errors.Fault f)) t s h = rw (t, h, length-drop size bytes) refl

sized_short : {R A X : Type 0} (mismatch : R) (size : ℕ) (w : Whole R A) (view : X → A) (e : End R) (bytes rest : List ℕ) (r : Result X (ReadError R)) → leb size (length bytes) ≡ false → Gives view r (w.reads e bytes) → Gives (λ x. (view x, rest)) (behind_part size e bytes r) ((of_size mismatch size w).reads e bytes)
sized_short mismatch size w view e bytes rest (Ok x) t h = rw (t, h) refl
sized_short mismatch size w view e bytes rest (Err errors.Memory) t h = tt {0}
sized_short mismatch size w view e bytes rest (Err (errors.Fault f)) t h = rw (t, h) refl

-- What the reading of a part came to, behind it, is what the grammar of so many bytes gives.
pub gives_sized : {R A X : Type 0} (mismatch : R) (size : ℕ) (w : Whole R A) (view : X → A) (e inner : End R) (bytes part rest : List ℕ) (r : Result X (ReadError R)) → part ≡ take size bytes → inner ≡ part_end mismatch size e bytes → rest ≡ drop size bytes → Gives view r (w.reads inner part) → Gives (λ x. (view x, rest)) (behind_part size e bytes r) ((of_size mismatch size w).reads e bytes)
gives_sized mismatch size w view e inner bytes part rest r p q s h =
    elim (cases_Bool (leb size (length bytes))) [
      | inl t ↦ sized_inside mismatch size w view e bytes rest r t s (subst (λ (b : List ℕ). Gives view r (w.reads (end.Whole mismatch) b)) p (subst (λ (i : End _). Gives view r (w.reads i part)) (q ∙ rw t refl) h))
      | inr f ↦ sized_short mismatch size w view e bytes rest r f (subst (λ (b : List ℕ). Gives view r (w.reads e b)) (p ∙ take_all size bytes (omega (arith, leb-false _ _ f))) (subst (λ (i : End _). Gives view r (w.reads i part)) (q ∙ rw f refl) h))
    ]

pub inside_part : {R A X : Type 0} (w : Whole R A) → LawfulWhole w → (view : X → A) (e : End R) (part : List ℕ) (r : Result X (ReadError R)) (size : ℕ) → IsBytes part → length part ≤ size → Gives view r (w.reads e part) → IsInside size r
inside_part w l view e part (Ok x) size fits le h = tt {0}
inside_part w l view e part (Err errors.Memory) size fits le h = tt {0}
inside_part w l view e part (Err (errors.Fault f)) size fits le h = omega (arith, l.within e part f fits h, le)
