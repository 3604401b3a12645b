-- What is written of a value spells it.
use Rattle.std.proofs.Common.{◌≡◌, ℕ, zero, suc, ◌+◌, ◌-◌, ◌<◌, ◌≤◌, ◌^◌, List, [], ◌∷◌, ◌++◌, length, Bool, true, Result, Ok, refl, sym, subst, arith}
use Rattle.std.specs.List.{flat_map, list_all, sum_by}
use Rattle.std.specs.Prelude.{ℤ}
use Rattle.std.proofs.lemmas.Bool.{and_parts}
use Rattle.std.proofs.lemmas.List.{length-append, append-nil}
use Rattle.std.proofs.lemmas.List.Sums.{sum_by-cons}
use Rattle.cm_leb.specs.Numbers.{IsWithin}
use Rattle.cm_leb.specs.NumbersWritten.{shortest_unsigned, shortest_signed}
use Rattle.cm_leb.proofs.ShortestLaws.{shortest_unsigned-spells, shortest_signed-spells}
use Rattle.cm_binary_grammar.specs.Grammar.{Grammar, done, ◌>>=◌, code, ahead, number, signed, raw, check, fixed, chain, from_stock, vec, stocked}
use Rattle.cm_binary_grammar.specs.Whole.{SpellsEach}
use Rattle.cm_binary_grammar.specs.Spelling.{vec_spelling, blob_spelling}
use Rattle.cm_lemmas.proofs.Lists.{all_spelled}

-- The text is a spelling of x.
pub record Spelled {R A : Type 0} (g : Grammar R A) (x : A) (text : List ℕ) : Type 0 where
  pub spells : g.Spells x text

-- A value that passes the test is spelled by `spell`, where that is no longer than a size can tell.
abbrev pub Writes : {R A : Type 0} → Grammar R A → (A → Bool) → (A → List ℕ) → Type 0
Writes g test spell = (x : _) → test x ≡ true → length (spell x) < 2 ^ 32 → Spelled g x (spell x)

-- ---- steps

pub done_written : {R A : Type 0} (x : A) → Spelled (done {R = R} x) x []
done_written x = record { spells = (refl, refl) }

pub bind_written : {R A B : Type 0} {g : Grammar R A} {x : A} {y : B} {bytes front rest : List ℕ} (next : A → Grammar R B) → Spelled g x front → Spelled (next x) y rest → bytes ≡ front ++ rest → Spelled (g >>= next) y bytes
bind_written {R} {A} {B} {g} {x} {y} {bytes} {front} {rest} next s t e = record { spells = (x, front, rest, s.spells, t.spells, e) }

-- A last thing, of which a value is made.
pub last_written : {R A B : Type 0} {g : Grammar R A} {x : A} {text : List ℕ} (make : A → B) → Spelled g x text → Spelled (g >>= λ z. done (make z)) (make x) text
last_written {R} {A} {B} {g} {x} {text} make s = record { spells = (x, text, [], s.spells, (refl, refl), sym (append-nil text)) }

pub code_written : {R K : Type 0} {table : ℕ → Result K R} {k : K} (b : ℕ) → table b ≡ Ok k → Spelled (code table) k (b ∷ [])
code_written b e = record { spells = (b, refl, e) }

pub fixed_written : {R : Type 0} {literal : List ℕ} {reason : R} → Spelled (fixed literal reason) tt literal
fixed_written = record { spells = refl }

pub number_written : {R : Type 0} {bad : R} (n : ℕ) → n < 2 ^ 32 → Spelled (number bad) n (shortest_unsigned n)
number_written n lt = record { spells = shortest_unsigned-spells n lt }

pub signed_written : {R : Type 0} {bad : R} (z : ℤ) → IsWithin 33 z → Spelled (signed bad) z (shortest_signed z)
signed_written z within = record { spells = shortest_signed-spells z within }

pub check_written : {R A : Type 0} {g : Grammar R A} {x : A} {text : List ℕ} (test : A → Bool) (reason : R) → test x ≡ true → Spelled g x text → Spelled (check test reason g) x text
check_written test reason e s = record { spells = (s.spells, e) }

pub raw_written : {R : Type 0} (x : List ℕ) → Spelled (raw {R = R} (length x)) x x
raw_written x = record { spells = (refl, refl) }

pub ahead_written : {R A : Type 0} {x : A} {text : List ℕ} (choice : ℕ → Grammar R A) (b : ℕ) (rest : List ℕ) → text ≡ b ∷ rest → Spelled (choice b) x text → Spelled (ahead choice) x text
ahead_written choice b rest e s = record { spells = (b, rest, e, s.spells) }

-- A length, and a text of so many bytes.
pub text_written : {R : Type 0} {bad : R} (body : ℕ → Grammar R (List ℕ)) (x : List ℕ) → length (blob_spelling x) < 2 ^ 32 → Spelled (body (length x)) x x → Spelled (number bad >>= body) x (blob_spelling x)
text_written body x lt s = bind_written body (number_written (length x) (omega (arith, length-append (shortest_unsigned (length x)) x, lt))) s refl

-- ---- several

-- Things each of which is spelled where it stands.
pub chain_written : {R A S : Type 0} (g : S → Grammar R A) (next : S → A → S) (spell : A → List ℕ) (Fine : S → List A → Type 0) → ((s : S) (x : A) (xs : List A) → Fine s (x ∷ xs) → Spelled (g s) x (spell x) × Fine (next s x) xs) → (s : S) (xs : List A) → Fine s xs → Spelled (chain g next (length xs) s) xs (flat_map spell xs)
chain_written g next spell Fine step s [] h = done_written []
chain_written {R} {A} {S} g next spell Fine step s (x ∷ xs) h =
    let one = step s x xs h in
    let more = chain_written g next spell Fine step (next s x) xs one.1 in
    record { spells = (x, spell x, flat_map spell xs, one.0.spells, (xs, flat_map spell xs, [], more.spells, (refl, refl), sym (append-nil (flat_map spell xs))), refl) }

pub each_written : {R A S : Type 0} (g : S → Grammar R A) (next : S → A → S) (spell : A → List ℕ) (Fine : S → List A → Type 0) → ((s : S) (x : A) (xs : List A) → Fine s (x ∷ xs) → Spelled (g s) x (spell x) × Fine (next s x) xs) → (s : S) (xs : List A) → Fine s xs → SpellsEach g next s xs (flat_map spell xs)
each_written g next spell Fine step s [] h = refl
each_written g next spell Fine step s (x ∷ xs) h =
    let one = step s x xs h in
    (spell x, flat_map spell xs, one.0.spells, each_written g next spell Fine step (next s x) xs one.1, refl)

-- All pass the test, and their spellings are no longer than a size can tell.
abbrev pub AreFine : {A : Type 0} → (A → Bool) → (A → List ℕ) → List A → Type 0
AreFine test spell xs = (list_all test xs ≡ true) × (length (flat_map spell xs) < 2 ^ 32)

pub fine_parts : {A : Type 0} (test : A → Bool) (spell : A → List ℕ) (x : A) (xs : List A) → AreFine test spell (x ∷ xs) → (test x ≡ true) × (length (spell x) < 2 ^ 32) × AreFine test spell xs
fine_parts test spell x xs h =
    let both = and_parts (test x) (list_all test xs) h.0 in
    let lengths = length-append (spell x) (flat_map spell xs) in
    (both.0, omega (arith, lengths, h.1), (both.1, omega (arith, lengths, h.1)))

-- Where no spelling is empty there are no more things than bytes.
counted_parts : {A : Type 0} (test : A → Bool) (spell : A → List ℕ) → ((x : A) → 0 < length (spell x)) → (xs : List A) → list_all test xs ≡ true → length (vec_spelling spell xs) < 2 ^ 32 → (length xs < 2 ^ 32) × AreFine test spell xs
counted_parts test spell some xs h lt =
    let lengths = length-append (shortest_unsigned (length xs)) (flat_map spell xs) in
    (omega (arith, all_spelled spell some xs, lengths, lt), (h, omega (arith, lengths, lt)))

vec_step : {R A : Type 0} (g : Grammar R A) (test : A → Bool) (spell : A → List ℕ) → Writes g test spell → (s : Unit {0}) (x : A) (xs : List A) → AreFine test spell (x ∷ xs) → Spelled g x (spell x) × AreFine test spell xs
vec_step g test spell w s x xs fine = let p = fine_parts test spell x xs fine in (w x p.0 p.1, p.2)

pub vec_written : {R A : Type 0} (bad : R) (g : Grammar R A) (test : A → Bool) (spell : A → List ℕ) → ((x : A) → 0 < length (spell x)) → Writes g test spell → Writes (vec bad g) (list_all test) (vec_spelling spell)
vec_written bad g test spell some w xs h lt =
    let parts = counted_parts test spell some xs h lt in
    bind_written _ (number_written (length xs) parts.0) (chain_written (λ (s : Unit {0}). g) (λ s x. s) spell (λ s. AreFine test spell) (vec_step g test spell w) tt xs parts.1) refl

-- ---- things out of a stock

-- The same of a value that costs no more than so much.
abbrev pub WritesFrom : {R A : Type 0} → (ℕ → Grammar R A) → (A → ℕ) → (A → Bool) → (A → List ℕ) → Type 0
WritesFrom g cost test spell = (stock : ℕ) (x : _) → cost x ≤ stock → test x ≡ true → length (spell x) < 2 ^ 32 → Spelled (g stock) x (spell x)

abbrev pub AreStocked : {A : Type 0} → (A → ℕ) → (A → Bool) → (A → List ℕ) → ℕ → List A → Type 0
AreStocked cost test spell stock xs = (sum_by cost xs ≤ stock) × AreFine test spell xs

stock_step : {R A : Type 0} (g : ℕ → Grammar R A) (cost : A → ℕ) (test : A → Bool) (spell : A → List ℕ) → WritesFrom g cost test spell → (stock : ℕ) (x : A) (xs : List A) → AreStocked cost test spell stock (x ∷ xs) → Spelled (g stock) x (spell x) × AreStocked cost test spell (stock - cost x) xs
stock_step g cost test spell w stock x xs h =
    let p = fine_parts test spell x xs h.1 in
    let costs = sum_by-cons cost x xs in
    (w stock x (omega (arith, costs, h.0)) p.0 p.1, (omega (arith, costs, h.0), p.2))

pub from_stock_written : {R A : Type 0} (g : ℕ → Grammar R A) (reason : R) (x : A) (text : List ℕ) (stock : ℕ) → 0 < stock → Spelled (g (stock - 1)) x text → Spelled (from_stock g reason stock) x text
from_stock_written g reason x text zero some s = absurd (omega arith)
from_stock_written g reason x text (suc stock) some s = let e : suc stock - 1 ≡ stock = omega arith in subst (λ (n : ℕ). Spelled (g n) x text) e s

pub stocked_written : {R A : Type 0} (bad : R) (g : ℕ → Grammar R A) (cost : A → ℕ) (test : A → Bool) (spell : A → List ℕ) → ((x : A) → 0 < length (spell x)) → WritesFrom g cost test spell → WritesFrom (stocked bad g cost) (λ xs. sum_by cost xs) (list_all test) (vec_spelling spell)
stocked_written bad g cost test spell some w stock xs le h lt =
    let parts = counted_parts test spell some xs h lt in
    bind_written _ (number_written (length xs) parts.0) (chain_written g (λ left x. left - cost x) spell (AreStocked cost test spell) (stock_step g cost test spell w) stock xs (le, parts.1)) refl

-- What is spelled costs no more than the stock.
pub chain_costs : {R A : Type 0} (g : ℕ → Grammar R A) (cost : A → ℕ) → ((stock : ℕ) (x : A) (bytes : List ℕ) → (g stock).Spells x bytes → cost x ≤ stock) → (n stock : ℕ) (xs : List A) (bytes : List ℕ) → (chain g (λ left x. left - cost x) n stock).Spells xs bytes → sum_by cost xs ≤ stock
chain_costs g cost l zero stock xs bytes s = rw s.0 (omega arith)
chain_costs g cost l (suc n) stock xs bytes s = rw s.4.4.0 (omega (arith, sum_by-cons cost s.0 s.4.0, l stock s.0 s.1 s.3, chain_costs g cost l n (stock - cost s.0) s.4.0 s.4.1 s.4.3))

pub from_stock_costs : {R A : Type 0} (g : ℕ → Grammar R A) (reason : R) (cost : A → ℕ) → ((stock : ℕ) (x : A) (bytes : List ℕ) → (g stock).Spells x bytes → cost x ≤ stock + 1) → (stock : ℕ) (x : A) (bytes : List ℕ) → (from_stock g reason stock).Spells x bytes → cost x ≤ stock
from_stock_costs g reason cost l zero x bytes s = absurd s
from_stock_costs g reason cost l (suc stock) x bytes s = omega (arith, l stock x bytes s)
