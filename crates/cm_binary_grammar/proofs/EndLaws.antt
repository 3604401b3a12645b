-- The laws of things to the end, and of a limit on all the bytes.
use Rattle.std.proofs.Common.{◌≡◌, ℕ, zero, suc, ◌+◌, ◌-◌, ◌<◌, ◌≤◌, List, [], ◌∷◌, ◌++◌, length, take, drop, Result, Ok, Err, refl, sym, ap, subst, ◌∙◌, arith, inl, inr, ◌⊎◌}
use Rattle.std.proofs.lemmas.Bool.{le-leb, lt-leb}
use Rattle.std.proofs.lemmas.List.{length-append, length-take, length-drop, take-append-le}
use Rattle.cm_binary_grammar.specs.declared.fault.Fault.{Fault}
use Rattle.cm_binary_grammar.specs.declared.fault.End.{End}
use Rattle.cm_binary_grammar.specs.declared.fault.End.TheVariants as end
use Rattle.cm_binary_grammar.specs.Faults.{flaw, later, and_then}
use Rattle.cm_binary_grammar.specs.Grammar.{Grammar}
use Rattle.cm_binary_grammar.specs.Whole.{Whole, SpellsEach, state_after, each_reads, to_end, too_many, and_behind, at_most}
use Rattle.cm_binary_grammar.proofs.Tools.{IsBytes-after, IsBytes-take, then_ok, then_err, later-later, parts_behind, parts_more}
use Rattle.cm_binary_grammar.proofs.Laws.{Stays, Lawful}
use Rattle.cm_binary_grammar.proofs.WholeLaws.{LawfulWhole}
use Rattle.cm_binary_grammar.proofs.PartLaws.{cases_le, part_of, later_twice}
use Rattle.cm_lemmas.proofs.Lists.{IsBytes}
use Rattle.cm_lemmas.proofs.Equations.{err_is, ok_is}
use Rattle.cm_lemmas.proofs.Results.{err_of}

-- A thing takes at least one byte.
abbrev pub IsNonempty : {R A : Type 0} → Grammar R A → Type 0
IsNonempty g = (x : _) (front : List ℕ) → g.Spells x front → 0 < length front

-- One thing, and reading on behind it.
abbrev pub and_more : {A E : Type 0} → A → Result (List A) E → Result (List A) E
and_more x t = and_then t (λ xs. Ok (x ∷ xs))

each_turn : {R A S : Type 0} (g : S → Grammar R A) (next : S → A → S) (room : ℕ) (s : S) (e : End R) (bytes : List ℕ) → 0 < length bytes → each_reads g next (suc room) s e bytes ≡ and_then ((g s).reads e bytes) (λ x. and_more x.0 (each_reads g next room (next s x.0) e x.1))
each_turn g next room s e [] h = absurd (omega arith)
each_turn g next room s e (b ∷ bytes) h = refl

each_none : {R A S : Type 0} (g : S → Grammar R A) (next : S → A → S) (room : ℕ) (s : S) (e : End R) → each_reads g next room s e [] ≡ Ok []
each_none g next zero s e = refl
each_none g next (suc room) s e = refl

shorter : (bytes front rest : List ℕ) → bytes ≡ front ++ rest → 0 < length front → length rest < length bytes
shorter bytes front rest e h = omega (arith, simp length-append at (ap length e), h)

each_takes : {R A S : Type 0} (g : S → Grammar R A) (next : S → A → S) → ((s : S) → Lawful (g s)) → ((s : S) → IsNonempty (g s)) → (room : ℕ) (s : S) (e : End R) (bytes : List ℕ) (xs : List A) → IsBytes bytes → length bytes ≤ room → each_reads g next room s e bytes ≡ Ok xs → SpellsEach g next s xs bytes
each_takes {R} {A} {S} g next l some room s e [] xs fits h k =
    let p = ok_is (Fault R) [] xs (sym (each_none g next room s e) ∙ k) in
    subst (λ (ys : List A). SpellsEach g next s ys []) p refl
each_takes g next l some zero s e (b ∷ bytes) xs fits h k = absurd (omega arith)
each_takes {R} {A} {S} g next l some (suc room) s e (b ∷ bytes) xs fits h k =
    let q = then_ok ((g s).reads e (b ∷ bytes)) (λ (x : A × List ℕ). and_more x.0 (each_reads g next room (next s x.0) e x.1)) xs k in
    let p = then_ok (each_reads g next room (next s q.0.0) e q.0.1) (λ (ys : List A). Ok (q.0.0 ∷ ys)) xs q.2 in
    let t = (l s).takes e (b ∷ bytes) q.0.0 q.0.1 fits q.1 in
    let less : length q.0.1 < length (b ∷ bytes) = shorter (b ∷ bytes) t.front q.0.1 t.parts (some s q.0.0 t.front t.spells) in
    let more = each_takes g next l some room (next s q.0.0) e q.0.1 p.0 (IsBytes-after (b ∷ bytes) t.front q.0.1 t.parts fits) (omega (arith, less, h)) p.1 in
    subst (λ (ys : List A). SpellsEach g next s ys (b ∷ bytes)) (ok_is (Fault R) (q.0.0 ∷ p.0) xs p.2) (t.front, q.0.1, t.spells, more, t.parts)

each_again : {R A S : Type 0} (g : S → Grammar R A) (next : S → A → S) → ((s : S) → Lawful (g s)) → ((s : S) → IsNonempty (g s)) → (room : ℕ) (s : S) (e : End R) (xs : List A) (bytes : List ℕ) → length bytes ≤ room → SpellsEach g next s xs bytes → each_reads g next room s e bytes ≡ Ok xs
each_again g next l some room s e [] bytes h k = rw k (each_none g next room s e)
each_again g next l some zero s e (x ∷ xs) bytes h k =
    absurd (omega (arith, some s x k.0 k.2, shorter bytes k.0 k.1 k.4 (some s x k.0 k.2), h))
each_again {R} {A} {S} g next l some (suc room) s e (x ∷ xs) bytes h k =
    let front = some s x k.0 k.2 in
    let less = shorter bytes k.0 k.1 k.4 front in
    let more = each_again g next l some room (next s x) e xs k.1 (omega (arith, less, h)) k.3 in
    let read : (g s).reads e bytes ≡ Ok (x, k.1) = ap ((g s).reads e) k.4 ∙ (l s).again e x k.0 k.1 k.2 in
    each_turn g next room s e bytes (omega (arith, less)) ∙ rw (read, more) refl

-- Where these things are spelled and the one behind them is not, its fault is given.
each_stops : {R A S : Type 0} (g : S → Grammar R A) (next : S → A → S) → ((s : S) → Lawful (g s)) → ((s : S) → IsNonempty (g s)) → (room : ℕ) (s : S) (e : End R) (xs : List A) (front rest : List ℕ) (f : Fault R) → length (front ++ rest) ≤ room → 0 < length rest → SpellsEach g next s xs front → (g (state_after next s xs)).reads e rest ≡ Err f → each_reads g next room s e (front ++ rest) ≡ Err f
each_stops g next l some zero s e xs front rest f h some_rest k fault = absurd (omega (arith, length-append front rest))
each_stops g next l some (suc room) s e [] front rest f h some_rest k fault =
    rw (k) (each_turn g next room s e rest some_rest ∙ rw fault refl)
each_stops {R} {A} {S} g next l some (suc room) s e (x ∷ xs) front rest f h some_rest k fault =
    let first = some s x k.0 k.2 in
    let parts : front ++ rest ≡ k.0 ++ (k.1 ++ rest) = parts_more front k.0 k.1 rest k.4 in
    let less = shorter (front ++ rest) k.0 (k.1 ++ rest) parts first in
    let more = each_stops g next l some room (next s x) e xs k.1 rest f (omega (arith, less, h)) some_rest k.3 fault in
    let read : (g s).reads e (front ++ rest) ≡ Ok (x, k.1 ++ rest) = ap ((g s).reads e) parts ∙ (l s).again e x k.0 (k.1 ++ rest) k.2 in
    each_turn g next room s e (front ++ rest) (omega (arith, less)) ∙ rw (read, more) refl

each_more_err : {R A S : Type 0} (g : S → Grammar R A) (next : S → A → S) (room : ℕ) (s : S) (e : End R) (bytes : List ℕ) (x : A) (f : Fault R) → and_more x (each_reads g next room s e bytes) ≡ Err f → each_reads g next room s e bytes ≡ Err f
each_more_err {R} {A} {S} g next room s e bytes x f h =
    elim (then_err (each_reads g next room s e bytes) (λ (xs : List A). Ok (x ∷ xs)) f h) [
      | inl q ↦ q
      | inr q ↦ let p = q.2 in absurd cc
    ]

each_faulty : {R A S : Type 0} (g : S → Grammar R A) (next : S → A → S) → ((s : S) → Lawful (g s)) → ((s : S) → IsNonempty (g s)) → (room : ℕ) (s : S) (e : End R) (bytes : List ℕ) (f : Fault R) → IsBytes bytes → length bytes ≤ room → each_reads g next room s e bytes ≡ Err f → (to_end g next s).Faulty e bytes f
each_faulty g next l some room s e [] f fits h k = let p = each_none g next room s e in absurd cc
each_faulty g next l some zero s e (b ∷ bytes) f fits h k = absurd (omega arith)
each_faulty {R} {A} {S} g next l some (suc room) s e (b ∷ bytes) f fits h k =
    elim (then_err ((g s).reads e (b ∷ bytes)) (λ (x : A × List ℕ). and_more x.0 (each_reads g next room (next s x.0) e x.1)) f k) [
      | inl q ↦ ([], [], b ∷ bytes, refl, refl, omega arith, (l s).faulty e (b ∷ bytes) f fits q)
      | inr q ↦
          let t = (l s).takes e (b ∷ bytes) q.0.0 q.0.1 fits q.1 in
          let less = shorter (b ∷ bytes) t.front q.0.1 t.parts (some s q.0.0 t.front t.spells) in
          let inner = each_more_err g next room (next s q.0.0) e q.0.1 q.0.0 f q.2 in
          let m = each_faulty g next l some room (next s q.0.0) e q.0.1 f (IsBytes-after (b ∷ bytes) t.front q.0.1 t.parts fits) (omega (arith, less, h)) inner in
          (q.0.0 ∷ m.0, t.front ++ m.1, m.2, (t.front, m.1, t.spells, m.3, refl), parts_behind (b ∷ bytes) t.front q.0.1 m.1 m.2 t.parts m.4, m.5, m.6)
    ]

pub to_end_lawful : {R A S : Type 0} (g : S → Grammar R A) (next : S → A → S) → ((s : S) → Lawful (g s)) → ((s : S) → IsNonempty (g s)) → (s : S) → LawfulWhole (to_end g next s)
to_end_lawful {R} {A} {S} g next l some s = record {
  takes = λ e bytes xs fits h. each_takes g next l some (length bytes) s e bytes xs fits (omega arith) h;
  again = λ e xs bytes k. each_again g next l some (length bytes) s e xs bytes (omega arith) k;
  faulty = λ e bytes f fits h. each_faulty g next l some (length bytes) s e bytes f fits (omega arith) h;
  faulty_again = λ e bytes f h.
      rw (h.4) (each_stops g next l some (length (h.1 ++ h.2)) s e h.0 h.1 h.2 f (omega arith) h.5 h.3 ((l (state_after next s h.0)).faulty_again e h.2 f h.6));
  within = λ e bytes f fits k.
      let h = each_faulty g next l some (length bytes) s e bytes f fits (omega arith) k in
      let inner = (l (state_after next s h.0)).within e h.2 f (IsBytes-after bytes h.1 h.2 h.4 fits) ((l (state_after next s h.0)).faulty_again e h.2 f h.6) in
      omega (arith, inner, simp length-append at (ap length h.4));
  stays = λ r bytes f fits k.
      let h = each_faulty g next l some (length bytes) s (end.Cut r) bytes f fits (omega arith) k in
      let m = l (state_after next s h.0) in
      elim (m.stays r h.2 f (IsBytes-after bytes h.1 h.2 h.4 fits) (m.faulty_again (end.Cut r) h.2 f h.6)) [
        | inl p ↦ inl p
        | inr p ↦ inr (λ e more.
            let parts : bytes ++ more ≡ h.1 ++ (h.2 ++ more) = parts_more bytes h.1 h.2 more h.4 in
            rw parts (each_stops g next l some (length (h.1 ++ (h.2 ++ more))) s e h.0 h.1 (h.2 ++ more) (later f (length more)) (omega arith) (omega (arith, h.5, length-append h.2 more)) h.3 (p e more)))
      ];
}

-- ---- turns of a loop

-- Room beyond the number of bytes changes nothing.
each_room : {R A S : Type 0} (g : S → Grammar R A) (next : S → A → S) → ((s : S) → Lawful (g s)) → ((s : S) → IsNonempty (g s)) → (room : ℕ) (s : S) (e : End R) (bytes : List ℕ) → IsBytes bytes → length bytes ≤ room → (t : Result (List A) (Fault R)) → each_reads g next room s e bytes ≡ t → (to_end g next s).reads e bytes ≡ t
each_room g next l some room s e bytes fits h (Ok xs) k = (to_end_lawful g next l some s).again e xs bytes (each_takes g next l some room s e bytes xs fits h k)
each_room g next l some room s e bytes fits h (Err f) k = (to_end_lawful g next l some s).faulty_again e bytes f (each_faulty g next l some room s e bytes f fits h k)

-- Reading to the end is one thing, and then reading to the end behind it.
pub to_end_turn : {R A S : Type 0} (g : S → Grammar R A) (next : S → A → S) → ((s : S) → Lawful (g s)) → ((s : S) → IsNonempty (g s)) → (s : S) (e : End R) (bytes : List ℕ) (x : A) (rest : List ℕ) → IsBytes bytes → 0 < length bytes → (g s).reads e bytes ≡ Ok (x, rest) → (to_end g next s).reads e bytes ≡ and_more x ((to_end g next (next s x)).reads e rest)
to_end_turn {R} {A} {S} g next l some s e bytes x rest fits h k =
    let t = (l s).takes e bytes x rest fits k in
    let less = shorter bytes t.front rest t.parts (some s x t.front t.spells) in
    let room = length bytes - 1 in
    let same : length bytes ≡ suc room = omega arith in
    let one : each_reads g next (length bytes) s e bytes ≡ and_more x (each_reads g next room (next s x) e rest) = ap (λ (n : ℕ). each_reads g next n s e bytes) same ∙ each_turn g next room s e bytes h ∙ rw k refl in
    let rest_reads = each_room g next l some room (next s x) e rest (IsBytes-after bytes t.front rest t.parts fits) (omega (arith, less)) (each_reads g next room (next s x) e rest) refl in
    one ∙ ap (and_more x) (sym rest_reads)

pub to_end_stops : {R A S : Type 0} (g : S → Grammar R A) (next : S → A → S) → ((s : S) → Lawful (g s)) → ((s : S) → IsNonempty (g s)) → (s : S) (e : End R) (bytes : List ℕ) (f : Fault R) → 0 < length bytes → (g s).reads e bytes ≡ Err f → (to_end g next s).reads e bytes ≡ Err f
to_end_stops g next l some s e bytes f h k = each_stops g next l some (length bytes) s e [] [] bytes f (omega arith) h refl k

-- ---- a limit on all the bytes

behind_ok : {R A : Type 0} (more : ℕ) (reason : R) (t : Result A (Fault R)) (x : A) → and_behind more (too_many reason t) ≡ Ok x → ⊥
behind_ok more reason (Ok y) x h = cc
behind_ok more reason (Err f) x h = cc

behind_err : {R A : Type 0} (more : ℕ) (reason : R) (t : Result A (Fault R)) (f : Fault R) → and_behind more (too_many reason t) ≡ Err f → (inner : Fault R) × ((t ≡ Err inner) ⊎ ((x : A) × (t ≡ Ok x) × (inner ≡ flaw 0 reason))) × (f ≡ later inner more)
behind_err {R} {A} more reason (Ok y) f h = (flaw 0 reason, inr (y, refl, refl), sym (err_is A (later (flaw 0 reason) more) f h))
behind_err {R} {A} more reason (Err d) f h = (d, inl refl, sym (err_is A (later d more) f h))

pub at_most_all : {R A : Type 0} (limit : ℕ) (reason : R) (w : Whole R A) (e : End R) (bytes : List ℕ) → length bytes ≤ limit → (at_most limit reason w).reads e bytes ≡ w.reads e bytes
at_most_all limit reason w e bytes h = let t = le-leb (length bytes) limit h in rw t refl

pub at_most_cut : {R A : Type 0} (limit : ℕ) (reason : R) (w : Whole R A) (e : End R) (bytes : List ℕ) → limit < length bytes → (at_most limit reason w).reads e bytes ≡ and_behind (length (drop limit bytes)) (too_many reason (w.reads (end.Cut reason) (take limit bytes)))
at_most_cut limit reason w e bytes h = let t = lt-leb (length bytes) limit h in rw t refl

at_most_faulty : {R A : Type 0} (limit : ℕ) (reason : R) (w : Whole R A) → LawfulWhole w → (e : End R) (bytes : List ℕ) (f : Fault R) → IsBytes bytes → (at_most limit reason w).reads e bytes ≡ Err f → (at_most limit reason w).Faulty e bytes f
at_most_faulty limit reason w l e bytes f fits h =
    elim (cases_le (length bytes) limit) [
      | inl le ↦ inl (le, l.faulty e bytes f fits (sym (at_most_all limit reason w e bytes le) ∙ h))
      | inr lt ↦
          let q = behind_err (length (drop limit bytes)) reason (w.reads (end.Cut reason) (take limit bytes)) f (sym (at_most_cut limit reason w e bytes lt) ∙ h) in
          elim q.1 [
            | inl k ↦ inr (lt, (q.0, inl (l.faulty (end.Cut reason) (take limit bytes) q.0 (IsBytes-take limit bytes fits) k), q.2))
            | inr k ↦ inr (lt, (q.0, inr (k.0, l.takes (end.Cut reason) (take limit bytes) k.0 (IsBytes-take limit bytes fits) k.1, k.2), q.2))
          ]
    ]

at_most_faulty_again : {R A : Type 0} (limit : ℕ) (reason : R) (w : Whole R A) → LawfulWhole w → (e : End R) (bytes : List ℕ) (f : Fault R) → (at_most limit reason w).Faulty e bytes f → (at_most limit reason w).reads e bytes ≡ Err f
at_most_faulty_again limit reason w l e bytes f (inl h) = at_most_all limit reason w e bytes h.0 ∙ l.faulty_again e bytes f h.1
at_most_faulty_again limit reason w l e bytes f (inr (lt, (inner, inl h, p))) = at_most_cut limit reason w e bytes lt ∙ rw (l.faulty_again (end.Cut reason) (take limit bytes) inner h, p) refl
at_most_faulty_again limit reason w l e bytes f (inr (lt, (inner, inr h, p))) = at_most_cut limit reason w e bytes lt ∙ rw (l.again (end.Cut reason) h.0 (take limit bytes) h.1, p, h.2) refl

-- The place of a fault behind which so many bytes stand.
at_most_within : {R A : Type 0} (limit : ℕ) (reason : R) (w : Whole R A) → LawfulWhole w → (e : End R) (bytes : List ℕ) (f : Fault R) → IsBytes bytes → (at_most limit reason w).reads e bytes ≡ Err f → f.left ≤ length bytes
at_most_within limit reason w l e bytes f fits h =
    elim (cases_le (length bytes) limit) [
      | inl le ↦ l.within e bytes f fits (sym (at_most_all limit reason w e bytes le) ∙ h)
      | inr lt ↦
          let q = behind_err (length (drop limit bytes)) reason (w.reads (end.Cut reason) (take limit bytes)) f (sym (at_most_cut limit reason w e bytes lt) ∙ h) in
          elim q.1 [
            | inl k ↦ rw (q.2) (omega (arith, l.within (end.Cut reason) (take limit bytes) q.0 (IsBytes-take limit bytes fits) k, length-take limit bytes, length-drop limit bytes))
            | inr k ↦ rw (q.2, k.2) (omega (arith, length-drop limit bytes))
          ]
    ]

behind_later : {R A : Type 0} (more : ℕ) (reason : R) (t : Result A (Fault R)) (inner out : Fault R) → (t ≡ Err inner) ⊎ ((x : A) × (t ≡ Ok x) × (inner ≡ flaw 0 reason)) → later inner more ≡ out → and_behind more (too_many reason t) ≡ Err out
behind_later {R} {A} more reason t inner out (inl h) p = rw (h) (ap (λ (g : Fault R). err_of A g) p)
behind_later {R} {A} more reason t inner out (inr h) p = rw (h.1, ← p, h.2) refl

at_most_grown : {R A : Type 0} (limit : ℕ) (reason : R) (w : Whole R A) (bytes : List ℕ) (f : Fault R) → length bytes ≤ limit → ((e : End R) (more : List ℕ) → w.reads e (bytes ++ more) ≡ Err (later f (length more))) → (e : End R) (more : List ℕ) → (at_most limit reason w).reads e (bytes ++ more) ≡ Err (later f (length more))
at_most_grown {R} {A} limit reason w bytes f small k e more =
    elim (cases_le (length (bytes ++ more)) limit) [
      | inl le ↦ at_most_all limit reason w e (bytes ++ more) le ∙ k e more
      | inr lt ↦
          let part = take (limit - length bytes) more in
          let front : take limit (bytes ++ more) ≡ bytes ++ part = part_of limit bytes more small (omega (arith, lt)) in
          let behind : length (drop limit (bytes ++ more)) ≡ length more - (limit - length bytes) = omega (arith, length-drop limit (bytes ++ more), length-append bytes more) in
          let sum : length part + length (drop limit (bytes ++ more)) ≡ length more = omega (arith, behind, length-take (limit - length bytes) more, length-append bytes more) in
          at_most_cut limit reason w e (bytes ++ more) lt ∙ behind_later (length (drop limit (bytes ++ more))) reason (w.reads (end.Cut reason) (take limit (bytes ++ more))) (later f (length part)) (later f (length more)) (inl (ap (w.reads (end.Cut reason)) front ∙ k (end.Cut reason) part)) (later-later f (length part) (length (drop limit (bytes ++ more))) (length more) sum)
    ]

at_most_stays : {R A : Type 0} (limit : ℕ) (reason : R) (w : Whole R A) → LawfulWhole w → (r : R) (bytes : List ℕ) (f : Fault R) → IsBytes bytes → (at_most limit reason w).reads (end.Cut r) bytes ≡ Err f → Stays (at_most limit reason w).reads r bytes f
at_most_stays {R} {A} limit reason w l r bytes f fits h =
    elim (cases_le (length bytes) limit) [
      | inl le ↦
          elim (l.stays r bytes f fits (sym (at_most_all limit reason w (end.Cut r) bytes le) ∙ h)) [
            | inl k ↦ inl k
            | inr k ↦ inr (λ e more. at_most_grown limit reason w bytes f le k e more)
          ]
      | inr lt ↦
          let q = behind_err (length (drop limit bytes)) reason (w.reads (end.Cut reason) (take limit bytes)) f (sym (at_most_cut limit reason w (end.Cut r) bytes lt) ∙ h) in
          inr (λ e more.
          let le : limit ≤ length bytes = omega arith in
          let front : take limit (bytes ++ more) ≡ take limit bytes = take-append-le limit bytes more le in
          let lt' : limit < length (bytes ++ more) = omega (arith, length-append bytes more, lt) in
          let behind : length (drop limit (bytes ++ more)) ≡ length (drop limit bytes) + length more = omega (arith, length-drop limit (bytes ++ more), length-drop limit bytes, length-append bytes more) in
          at_most_cut limit reason w e (bytes ++ more) lt' ∙ behind_later (length (drop limit (bytes ++ more))) reason (w.reads (end.Cut reason) (take limit (bytes ++ more))) q.0 (later f (length more)) (subst (λ (b : List ℕ). (w.reads (end.Cut reason) b ≡ Err q.0) ⊎ ((x : A) × (w.reads (end.Cut reason) b ≡ Ok x) × (q.0 ≡ flaw 0 reason))) (sym front) q.1) (later_twice q.0 f (length (drop limit bytes)) (length more) (length (drop limit (bytes ++ more))) q.2 behind))
    ]

pub at_most_lawful : {R A : Type 0} (limit : ℕ) (reason : R) (w : Whole R A) → LawfulWhole w → LawfulWhole (at_most limit reason w)
at_most_lawful {R} {A} limit reason w l = record {
  takes = λ e bytes x fits h.
      elim (cases_le (length bytes) limit) [
        | inl le ↦ (le, l.takes e bytes x fits (sym (at_most_all limit reason w e bytes le) ∙ h))
        | inr lt ↦ absurd (behind_ok (length (drop limit bytes)) reason (w.reads (end.Cut reason) (take limit bytes)) x (sym (at_most_cut limit reason w e bytes lt) ∙ h))
      ];
  again = λ e x bytes s. at_most_all limit reason w e bytes s.0 ∙ l.again e x bytes s.1;
  faulty = at_most_faulty limit reason w l;
  faulty_again = at_most_faulty_again limit reason w l;
  within = at_most_within limit reason w l;
  stays = at_most_stays limit reason w l;
}
