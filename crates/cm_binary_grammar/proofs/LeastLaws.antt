-- No spelling of a value is shorter than the one that is written, on lengths alone.
use Rattle.std.proofs.Common.{◌≡◌, ℕ, zero, suc, ◌+◌, ◌-◌, ◌≤◌, List, [], ◌∷◌, ◌++◌, length, Bool, Result, ap, ◌∙◌, arith}
use Rattle.std.specs.List.{flat_map}
use Rattle.std.proofs.lemmas.Bool.Decides.{nat_tests}
use Rattle.std.proofs.lemmas.List.{length-append}
use Rattle.cm_leb.specs.NumbersWritten.{shortest_unsigned, shortest_signed}
use Rattle.cm_leb.proofs.ShortestLaws.{shortest_unsigned-least, shortest_unsigned-length, shortest_signed-least}
use Rattle.cm_binary_grammar.specs.Grammar.{Grammar, done, ◌>>=◌, code, refuse, ahead, number, signed, raw, check, fixed, chain, from_stock, vec, stocked}
use Rattle.cm_binary_grammar.specs.Whole.{Whole, build, remainder, exactly, join, begins_with, SpellsEach, to_end, of_size, at_most}
use Rattle.cm_binary_grammar.specs.Spelling.{vec_spelling, blob_spelling}

-- What spells x takes at least so many bytes.
pub record Least {R A : Type 0} (g : Grammar R A) (least : A → ℕ) : Type 0 where
  pub bound : (x : A) (bytes : List ℕ) → g.Spells x bytes → least x ≤ length bytes

pub record LeastWhole {R A : Type 0} (w : Whole R A) (least : A → ℕ) : Type 0 where
  pub bound : (x : A) (bytes : List ℕ) → w.Spells x bytes → least x ≤ length bytes

both : (bytes front rest : List ℕ) → bytes ≡ front ++ rest → length bytes ≡ length front + length rest
both bytes front rest e = ap length e ∙ length-append front rest

-- ---- steps

pub done_least : {R A : Type 0} {least : A → ℕ} (x : A) → least x ≤ 0 → Least (done {R = R} x) least
done_least x h = record { bound = λ y bytes s. rw s.0 (omega (arith, h)) }

-- The second thing takes what the first one leaves.
pub bind_least : {R A B : Type 0} {first : A → ℕ} {least : B → ℕ} (g : Grammar R A) (next : A → Grammar R B) → Least g first → ((x : A) → Least (next x) (λ y. least y - first x)) → Least (g >>= next) least
bind_least g next l m = record { bound = λ y bytes s. omega (arith, l.bound s.0 s.1 s.3, (m s.0).bound y s.2 s.4, both bytes s.1 s.2 s.5) }

pub code_least : {R K : Type 0} (table : ℕ → Result K R) → Least (code table) (λ k. 1)
code_least table = record { bound = λ k bytes s. omega (arith, ap length s.1) }

pub refuse_least : {R A : Type 0} {least : A → ℕ} (reason : ℕ → R) → Least (refuse {A = A} reason) least
refuse_least reason = record { bound = λ x bytes s. let e = s.2 in absurd cc }

pub ahead_least : {R A : Type 0} {least : A → ℕ} (choice : ℕ → Grammar R A) → ((b : ℕ) → Least (choice b) least) → Least (ahead choice) least
ahead_least choice l = record { bound = λ x bytes s. (l s.0).bound x bytes s.3 }

pub number_least : {R : Type 0} (bad : R) → Least (number bad) (λ n. length (shortest_unsigned n))
number_least bad = record { bound = shortest_unsigned-least }

pub signed_least : {R : Type 0} (bad : R) → Least (signed bad) (λ z. length (shortest_signed z))
signed_least bad = record { bound = shortest_signed-least }

pub check_least : {R A : Type 0} {least : A → ℕ} (test : A → Bool) (reason : R) (g : Grammar R A) → Least g least → Least (check test reason g) least
check_least test reason g l = record { bound = λ x bytes s. l.bound x bytes s.0 }

pub fixed_least : {R : Type 0} (literal : List ℕ) (reason : R) → Least (fixed literal reason) (λ u. length literal)
fixed_least literal reason = record { bound = λ u bytes s. omega (arith, ap length s) }

-- Bytes behind their number.
pub counted_least : {R : Type 0} (n : ℕ) → Least (raw {R = R} n) (λ x. length (blob_spelling x) - length (shortest_unsigned n))
counted_least n = record { bound = λ x bytes s. omega (arith, length-append (shortest_unsigned (length x)) x, ap (λ (m : ℕ). length (shortest_unsigned m)) (ap length s.1 ∙ s.0), ap length s.1, s.0) }

-- ---- several

flat_map-cons : {A : Type 0} (spell : A → List ℕ) (x : A) (xs : List A) → length (flat_map spell (x ∷ xs)) ≡ length (spell x) + length (flat_map spell xs)
flat_map-cons spell x xs = length-append (spell x) (flat_map spell xs)

pub chain_least : {R A S : Type 0} (g : S → Grammar R A) (next : S → A → S) (spell : A → List ℕ) → ((s : S) → Least (g s) (λ x. length (spell x))) → (n : ℕ) (s : S) → Least (chain g next n s) (λ xs. length (flat_map spell xs))
chain_least g next spell l zero s = done_least [] (omega arith)
chain_least g next spell l (suc n) s = bind_least (g s) _ (l s) (λ x. bind_least (chain g next n (next s x)) _ (chain_least g next spell l n (next s x)) (λ xs. done_least (x ∷ xs) (omega (arith, flat_map-cons spell x xs))))

pub chain_count : {R A S : Type 0} (g : S → Grammar R A) (next : S → A → S) (n : ℕ) (s : S) (xs : List A) (bytes : List ℕ) → (chain g next n s).Spells xs bytes → length xs ≡ n
chain_count g next zero s xs bytes h = ap length h.0
chain_count g next (suc n) s xs bytes h = ap length h.4.4.0 ∙ ap suc (chain_count g next n (next s h.0) h.4.0 h.4.1 h.4.3)

counted_chain : {R A S : Type 0} (bad : R) (g : S → Grammar R A) (next : S → A → S) (spell : A → List ℕ) → ((s : S) → Least (g s) (λ x. length (spell x))) → (s : S) → Least (number bad >>= λ n. chain g next n s) (λ xs. length (vec_spelling spell xs))
counted_chain bad g next spell l s = record {
  bound = λ xs bytes h.
      let n : length xs ≡ h.0 = chain_count g next h.0 s xs h.2 h.4 in
      omega (arith, ap (λ (m : ℕ). length (shortest_unsigned m)) n, (number_least bad).bound h.0 h.1 h.3, (chain_least g next spell l h.0 s).bound xs h.2 h.4, both bytes h.1 h.2 h.5, length-append (shortest_unsigned (length xs)) (flat_map spell xs));
}

pub vec_least : {R A : Type 0} (bad : R) (g : Grammar R A) (spell : A → List ℕ) → Least g (λ x. length (spell x)) → Least (vec bad g) (λ xs. length (vec_spelling spell xs))
vec_least bad g spell l = counted_chain bad (λ (s : Unit {0}). g) (λ s x. s) spell (λ s. l) tt

pub from_stock_least : {R A : Type 0} {least : A → ℕ} (g : ℕ → Grammar R A) (reason : R) → ((stock : ℕ) → Least (g stock) least) → (stock : ℕ) → Least (from_stock g reason stock) least
from_stock_least g reason l zero = record { bound = λ x bytes s. absurd s }
from_stock_least g reason l (suc stock) = l stock

pub stocked_least : {R A : Type 0} (bad : R) (g : ℕ → Grammar R A) (cost : A → ℕ) (spell : A → List ℕ) → ((stock : ℕ) → Least (g stock) (λ x. length (spell x))) → (stock : ℕ) → Least (stocked bad g cost stock) (λ xs. length (vec_spelling spell xs))
stocked_least bad g cost spell l stock = counted_chain bad g (λ left x. left - cost x) spell l stock

-- ---- bytes to their end

pub build_least : {R A B : Type 0} {least : B → ℕ} (make : A → B) (w : Whole R A) → LeastWhole w (λ x. least (make x)) → LeastWhole (build make w) least
build_least make w l = record { bound = λ y bytes s. rw s.2 (l.bound s.0 bytes s.1) }

pub remainder_least : {R : Type 0} → LeastWhole (remainder {R = R}) length
remainder_least = record { bound = λ x bytes s. omega (arith, ap length s) }

pub begins_with_least : {R : Type 0} (literal : List ℕ) (reason : R) → LeastWhole (begins_with literal reason) length
begins_with_least literal reason = record { bound = λ x bytes s. omega (arith, ap length s.0) }

pub exactly_least : {R A : Type 0} {least : A → ℕ} (surplus : R) (g : Grammar R A) → Least g least → LeastWhole (exactly surplus g) least
exactly_least surplus g l = record { bound = l.bound }

pub join_least : {R A B : Type 0} {first : A → ℕ} {least : B → ℕ} (g : Grammar R A) (next : A → Whole R B) → Least g first → ((x : A) → LeastWhole (next x) (λ y. least y - first x)) → LeastWhole (join g next) least
join_least g next l m = record { bound = λ y bytes s. omega (arith, l.bound s.0 s.1 s.3, (m s.0).bound y s.2 s.4, both bytes s.1 s.2 s.5) }

-- A smaller number has no longer a shortest spelling.
shortest_unsigned-mono : (m n : ℕ) → m ≤ n → length (shortest_unsigned m) ≤ length (shortest_unsigned n)
shortest_unsigned-mono m n h = rw (shortest_unsigned-length m, shortest_unsigned-length n) (grind (arith, nat_tests))

-- A part behind its size.
pub of_size_least : {R A : Type 0} (mismatch : R) (n : ℕ) (w : Whole R A) (spell : A → List ℕ) → LeastWhole w (λ x. length (spell x)) → Least (of_size mismatch n w) (λ x. length (blob_spelling (spell x)) - length (shortest_unsigned n))
of_size_least mismatch n w spell l = record {
  bound = λ x bytes s.
      let less : length (spell x) ≤ n = omega (arith, l.bound x bytes s.1, s.0) in
      omega (arith, l.bound x bytes s.1, shortest_unsigned-mono (length (spell x)) n less, length-append (shortest_unsigned (length (spell x))) (spell x));
}

each_least : {R A S : Type 0} (g : S → Grammar R A) (next : S → A → S) (spell : A → List ℕ) → ((s : S) → Least (g s) (λ x. length (spell x))) → (s : S) (xs : List A) (bytes : List ℕ) → SpellsEach g next s xs bytes → length (flat_map spell xs) ≤ length bytes
each_least g next spell l s [] bytes h = omega arith
each_least g next spell l s (x ∷ xs) bytes h = omega (arith, (l s).bound x h.0 h.2, each_least g next spell l (next s x) xs h.1 h.3, both bytes h.0 h.1 h.4, flat_map-cons spell x xs)

pub to_end_least : {R A S : Type 0} (g : S → Grammar R A) (next : S → A → S) (spell : A → List ℕ) → ((s : S) → Least (g s) (λ x. length (spell x))) → (s : S) → LeastWhole (to_end g next s) (λ xs. length (flat_map spell xs))
to_end_least g next spell l s = record { bound = each_least g next spell l s }

pub at_most_least : {R A : Type 0} {least : A → ℕ} (limit : ℕ) (reason : R) (w : Whole R A) → LeastWhole w least → LeastWhole (at_most limit reason w) least
at_most_least limit reason w l = record { bound = λ x bytes s. l.bound x bytes s.1 }
