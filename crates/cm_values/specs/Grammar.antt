-- Grammars of texts: which bytes spell a value, before which next byte, and what is the first fault
-- of bytes that do not begin with a spelling. A grammar is built from steps, and each step says
-- both, so the two cannot part.
use Rattle.std.specs.Prelude.{◌≡◌, ℕ, zero, suc, ◌⊎◌, Bool, true, false, if◌then◌else◌}
use Rattle.std.specs.Prelude.{List, [], ◌∷◌, ◌++◌, length, Option, Some, None, Result, Ok, Err}
use Rattle.std.specs.List.{list_all}
use Rattle.cm_values.specs.declared.value_fault.Fault.{Fault}
use Rattle.cm_values.specs.declared.value_fault.ValueReason.{ValueReason}
use Rattle.cm_values.specs.declared.value_fault.ValueReason.TheVariants as reason
use Rattle.cm_values.specs.ReadFaults.{flaw, and_then}

-- the first byte, if there is one
abbrev pub first : List ℕ → Option ℕ
first [] = None
first (b ∷ bs) = Some b

-- the first byte of some bytes before this next one
abbrev pub first_or : List ℕ → Option ℕ → Option ℕ
first_or [] next = next
first_or (b ∷ bs) next = Some b

-- Values that stand at the front of bytes. `Spells x bytes next`: the bytes are a spelling of x
-- where next is the byte behind them (none: the text ends). `reads` gives the value at the front
-- and the bytes behind it, or the first fault.
pub record Grammar (A : Type 0) : Type 1 where
  pub Spells : A → List ℕ → Option ℕ → Type 0
  pub reads : List ℕ → Result (A × List ℕ) Fault

-- The value x, of no bytes.
abbrev pub done : {A : Type 0} → A → Grammar A
done x = record {
  Spells = λ y bytes next. (y ≡ x) × (bytes ≡ []);
  reads = λ bytes. Ok (x, bytes);
}

-- No value: a fault at the place itself.
abbrev pub fail : {A : Type 0} → ValueReason → Grammar A
fail why = record {
  Spells = λ x bytes next. ⊥;
  reads = λ bytes. Err (flaw (length bytes) why);
}

-- One thing, and then another that may depend on it.
infixl 10 ◌>>=◌
abbrev pub ◌>>=◌ : {A B : Type 0} → Grammar A → (A → Grammar B) → Grammar B
g >>= h = record {
  Spells = λ y bytes next.
      (x : _) × (front : List ℕ) × (rest : List ℕ)
      × g.Spells x front (first_or rest next) × (h x).Spells y rest next × (bytes ≡ front ++ rest);
  reads = λ bytes. and_then (g.reads bytes) (λ x. (h x.0).reads x.1);
}

-- A byte of a table, which says what the byte stands for, or what is wrong with it. Where no byte
-- is left one is wanted.
abbrev pub taken : {K : Type 0} → List ℕ → Result K ValueReason → Result (K × List ℕ) Fault
taken bytes (Ok k) = Ok (k, bytes)
taken bytes (Err why) = Err (flaw (suc (length bytes)) why)

abbrev pub byte_reads : {K : Type 0} →
    (ℕ → Result K ValueReason) → List ℕ → Result (K × List ℕ) Fault
byte_reads table [] = Err (flaw 0 reason.Unexpected)
byte_reads table (b ∷ bytes) = taken bytes (table b)

abbrev pub byte : {K : Type 0} → (ℕ → Result K ValueReason) → Grammar K
byte table = record {
  Spells = λ k bytes next. (b : ℕ) × (bytes ≡ b ∷ []) × (table b ≡ Ok k);
  reads = byte_reads table;
}

-- whether there is a next byte, and it passes the test
abbrev pub passes : (ℕ → Bool) → Option ℕ → Bool
passes test None = false
passes test (Some b) = test b

-- The next byte chooses: g where it passes the test, else h.
abbrev pub chosen : {A : Type 0} → (ℕ → Bool) → Grammar A → Grammar A → Grammar A
chosen test g h = record {
  Spells = λ x bytes next.
      ((passes test (first_or bytes next) ≡ true) × g.Spells x bytes next)
      ⊎ ((passes test (first_or bytes next) ≡ false) × h.Spells x bytes next);
  reads = λ bytes. if passes test (first bytes) then g.reads bytes else h.reads bytes;
}

-- As many bytes as pass the test.
abbrev pub run_front : (ℕ → Bool) → List ℕ → List ℕ
run_front test [] = []
run_front test (b ∷ bytes) = if test b then b ∷ run_front test bytes else []

abbrev pub run_behind : (ℕ → Bool) → List ℕ → List ℕ
run_behind test [] = []
run_behind test (b ∷ bytes) = if test b then run_behind test bytes else b ∷ bytes

abbrev pub run : (ℕ → Bool) → Grammar (List ℕ)
run test = record {
  Spells = λ x bytes next.
      (bytes ≡ x) × (list_all test x ≡ true) × (passes test next ≡ false);
  reads = λ bytes. Ok (run_front test bytes, run_behind test bytes);
}

-- What a table says of a value of g. One that it refuses is a fault at its first byte.
abbrev pub judged : {B : Type 0} →
    List ℕ → List ℕ → Result B ValueReason → Result (B × List ℕ) Fault
judged bytes rest (Ok y) = Ok (y, rest)
judged bytes rest (Err why) = Err (flaw (length bytes) why)

abbrev pub checked : {A B : Type 0} → Grammar A → (A → Result B ValueReason) → Grammar B
checked g table = record {
  Spells = λ y bytes next. (x : _) × g.Spells x bytes next × (table x ≡ Ok y);
  reads = λ bytes. and_then (g.reads bytes) (λ x. judged bytes x.1 (table x.0));
}

-- Steps one after the other, each of which gives a value, up to one that gives none.
abbrev pub StepsSpell : {A : Type 0} →
    Grammar (Option A) → List A → List ℕ → Option ℕ → Type 0
StepsSpell g [] bytes next = g.Spells None bytes next
StepsSpell g (x ∷ xs) bytes next =
    (front : List ℕ) × (rest : List ℕ)
    × g.Spells (Some x) front (first_or rest next)
    × StepsSpell g xs rest next × (bytes ≡ front ++ rest)

abbrev pub with_front : {A : Type 0} →
    List A → Result (List A × List ℕ) Fault → Result (List A × List ℕ) Fault
with_front xs read = and_then read (λ p. Ok (xs ++ p.0, p.1))

abbrev pub after_step : {A : Type 0} →
    (List ℕ → Result (List A × List ℕ) Fault) →
    Option A → List ℕ → Result (List A × List ℕ) Fault
after_step more None bytes = Ok ([], bytes)
after_step more (Some x) bytes = with_front (x ∷ []) (more bytes)

-- in so many turns, each of which takes a byte at least
unfoldable pub steps_in : {A : Type 0} →
    Grammar (Option A) → ℕ → List ℕ → Result (List A × List ℕ) Fault
steps_in g zero bytes = Err (flaw (length bytes) reason.Unexpected)
steps_in g (suc turns) bytes =
    and_then (g.reads bytes) (λ p. after_step (steps_in g turns) p.0 p.1)

abbrev pub steps : {A : Type 0} → Grammar (Option A) → Grammar (List A)
steps g = record {
  Spells = StepsSpell g;
  reads = λ bytes. steps_in g (suc (length bytes)) bytes;
}
