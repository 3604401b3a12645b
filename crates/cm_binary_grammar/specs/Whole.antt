-- Grammars of all of some bytes, to their end.
use Rattle.std.specs.Prelude.{◌≡◌, ℕ, zero, suc, ◌<◌, ◌≤◌, ◌⊎◌, List, [], ◌∷◌, ◌++◌, length, take}
use Rattle.std.specs.Prelude.{drop, Result, Ok, Err, nat_eq, nat_le, if◌then◌else◌}
use Rattle.cm_binary_grammar.specs.declared.fault.Fault.{Fault}
use Rattle.cm_binary_grammar.specs.declared.fault.End.{End}
use Rattle.cm_binary_grammar.specs.declared.fault.End.TheVariants as end
use Rattle.cm_binary_grammar.specs.Faults.{flaw, later, want, and_then}
use Rattle.cm_binary_grammar.specs.Grammar.{Grammar, DifferAt, IsBeginning}

-- Values that are spelled by all of some bytes. `Faulty e bytes f`: the bytes, which end at e,
-- spell no value, and f is their first fault.
pub record Whole (R A : Type 0) : Type 1 where
  pub Spells : A → List ℕ → Type 0
  pub Faulty : End R → List ℕ → Fault R → Type 0
  pub reads : End R → List ℕ → Result A (Fault R)

-- The value made of what w spells.
abbrev pub build : {R A B : Type 0} → (A → B) → Whole R A → Whole R B
build f w = record {
  Spells = λ y bytes. (x : _) × w.Spells x bytes × (y ≡ f x);
  Faulty = w.Faulty;
  reads = λ e bytes. and_then (w.reads e bytes) (λ x. Ok (f x));
}

-- The bytes themselves, whatever they are.
abbrev pub remainder : {R : Type 0} → Whole R (List ℕ)
remainder = record {
  Spells = λ x bytes. x ≡ bytes;
  Faulty = λ e bytes f. ⊥;
  reads = λ e bytes. Ok bytes;
}

-- What a thing with the bytes behind it comes to where none may be there.
abbrev pub exactly_ends : {R A : Type 0} → R → A × List ℕ → Result A (Fault R)
exactly_ends surplus (x, []) = Ok x
exactly_ends surplus (x, b ∷ rest) = Err (flaw (suc (length rest)) surplus)

-- One thing and no byte after it: the first byte after it is a fault.
abbrev pub exactly : {R A : Type 0} → R → Grammar R A → Whole R A
exactly surplus g = record {
  Spells = g.Spells;
  Faulty = λ e bytes f. g.Faulty e bytes f
      ⊎ ((x : _) × (front : List ℕ) × (rest : List ℕ) × g.Spells x front × (bytes ≡ front ++ rest)
      × (0 < length rest) × (f ≡ flaw (length rest) surplus));
  reads = λ e bytes. and_then (g.reads e bytes) (exactly_ends surplus);
}

-- One thing, and all the rest, which may depend on it.
abbrev pub join : {R A B : Type 0} → Grammar R A → (A → Whole R B) → Whole R B
join g next = record {
  Spells = λ y bytes. (x : _) × (front : List ℕ) × (rest : List ℕ) × g.Spells x front
      × (next x).Spells y rest × (bytes ≡ front ++ rest);
  Faulty = λ e bytes f. g.Faulty e bytes f
      ⊎ ((x : _) × (front : List ℕ) × (rest : List ℕ) × g.Spells x front × (bytes ≡ front ++ rest)
      × (next x).Faulty e rest f);
  reads = λ e bytes. and_then (g.reads e bytes) (λ x. (next x.0).reads e x.1);
}

-- The fault of bytes that are only a beginning of a literal: at their first byte where no more were
-- to come; where the input cuts them a byte is wanted at its end.
abbrev pub too_short : {R : Type 0} → R → End R → List ℕ → Fault R
too_short reason (end.Whole r) bytes = flaw (length bytes) reason
too_short reason (end.Cut r) bytes = flaw 0 r

-- Comparing a literal with the bytes, byte after byte.
abbrev pub begins_with_reads : {R : Type 0} → List ℕ → R → End R → List ℕ → List ℕ
    → Result (List ℕ) (Fault R)
begins_with_reads [] reason e bytes rest = Ok bytes
begins_with_reads (c ∷ literal) reason e bytes [] = Err (too_short reason e bytes)
begins_with_reads (c ∷ literal) reason e bytes (b ∷ rest) = if nat_eq b c
    then begins_with_reads literal reason e bytes rest else Err (flaw (length bytes) reason)

-- Bytes that begin with the literal. A fault is at their first byte: where a byte differs, and
-- where the bytes are too short.
abbrev pub begins_with : {R : Type 0} → List ℕ → R → Whole R (List ℕ)
begins_with literal reason = record {
  Spells = λ x bytes. (x ≡ bytes) × ((rest : List ℕ) × (bytes ≡ literal ++ rest));
  Faulty = λ e bytes f. (IsBeginning literal bytes × (f ≡ too_short reason e bytes))
      ⊎ ((left : ℕ) × DifferAt literal bytes left × (f ≡ flaw (length bytes) reason));
  reads = λ e bytes. begins_with_reads literal reason e bytes bytes;
}

-- The bytes are spellings of these things, one after the other, each of the grammar that the state
-- says.
abbrev pub SpellsEach : {R A S : Type 0} → (S → Grammar R A) → (S → A → S) → S → List A → List ℕ
    → Type 0
SpellsEach g next s [] bytes = bytes ≡ []
SpellsEach g next s (x ∷ xs) bytes = (front : List ℕ) × (rest : List ℕ) × (g s).Spells x front
    × SpellsEach g next (next s x) xs rest × (bytes ≡ front ++ rest)

-- The state behind these things.
abbrev pub state_after : {A S : Type 0} → (S → A → S) → S → List A → S
state_after next s [] = s
state_after next s (x ∷ xs) = state_after next (next s x) xs

-- Reading on, at most so many things.
abbrev pub each_reads : {R A S : Type 0} → (S → Grammar R A) → (S → A → S) → ℕ → S → End R → List ℕ
    → Result (List A) (Fault R)
each_reads g next room s e [] = Ok []
each_reads g next zero s e (b ∷ rest) = Err (want e)
each_reads g next (suc room) s e (b ∷ rest) = and_then ((g s).reads e (b ∷ rest))
    (λ x. and_then (each_reads g next room (next s x.0) e x.1) (λ xs. Ok (x.0 ∷ xs)))

-- Things to the end, however many, each of at least one byte. The first fault is that of the first
-- thing that is not spelled.
abbrev pub to_end : {R A S : Type 0} → (S → Grammar R A) → (S → A → S) → S → Whole R (List A)
to_end g next s = record {
  Spells = SpellsEach g next s;
  Faulty = λ e bytes f. (xs : List _) × (front : List ℕ) × (rest : List ℕ)
      × SpellsEach g next s xs front × (bytes ≡ front ++ rest) × (0 < length rest)
      × (g (state_after next s xs)).Faulty e rest f;
  reads = λ e bytes. each_reads g next (length bytes) s e bytes;
}

-- What the reading of a whole part comes to, with the bytes behind it.
abbrev pub inside : {R A : Type 0} → List ℕ → Result A (Fault R) → Result (A × List ℕ) (Fault R)
inside rest (Ok x) = Ok (x, rest)
inside rest (Err f) = Err (later f (length rest))

-- What the reading of a part that the bytes cut short comes to.
abbrev pub cut_short : {R A : Type 0} → End R → Result A (Fault R) → Result (A × List ℕ) (Fault R)
cut_short e (Ok x) = Err (want e)
cut_short e (Err f) = Err f

-- A part of so many bytes, which w spells to its end. Where the bytes end before the part does, a
-- fault inside comes first, and else a byte is wanted at their end.
abbrev pub of_size : {R A : Type 0} → R → ℕ → Whole R A → Grammar R A
of_size mismatch n w = record {
  Spells = λ x bytes. (length bytes ≡ n) × w.Spells x bytes;
  Faulty = λ e bytes f.
      ((front : List ℕ) × (rest : List ℕ) × (inner : Fault _) × (length front ≡ n)
      × (bytes ≡ front ++ rest) × w.Faulty (end.Whole mismatch) front inner
      × (f ≡ later inner (length rest)))
      ⊎ ((length bytes < n) × (w.Faulty e bytes f ⊎ ((x : _) × w.Spells x bytes × (f ≡ want e))));
  reads = λ e bytes. if nat_le n (length bytes)
      then inside (drop n bytes) (w.reads (end.Whole mismatch) (take n bytes))
      else cut_short e (w.reads e bytes);
}

-- What the reading of as many bytes as the limit allows comes to where more stand behind them.
abbrev pub too_many : {R A : Type 0} → R → Result A (Fault R) → Result A (Fault R)
too_many reason (Ok x) = Err (flaw 0 reason)
too_many reason (Err f) = Err f

-- A fault with so many bytes more behind it.
abbrev pub and_behind : {R A : Type 0} → ℕ → Result A (Fault R) → Result A (Fault R)
and_behind more (Ok x) = Ok x
and_behind more (Err f) = Err (later f more)

-- All of the bytes, where they are at most so many. Of more bytes only so many are looked at, and a
-- byte is wanted behind them.
abbrev pub at_most : {R A : Type 0} → ℕ → R → Whole R A → Whole R A
at_most limit reason w = record {
  Spells = λ x bytes. (length bytes ≤ limit) × w.Spells x bytes;
  Faulty = λ e bytes f.
      ((length bytes ≤ limit) × w.Faulty e bytes f)
      ⊎ ((limit < length bytes)
      × ((inner : Fault _) × (w.Faulty (end.Cut reason) (take limit bytes) inner
      ⊎ ((x : _) × w.Spells x (take limit bytes) × (inner ≡ flaw 0 reason)))
      × (f ≡ later inner (length (drop limit bytes)))));
  reads = λ e bytes. if nat_le (length bytes) limit then w.reads e bytes
      else and_behind (length (drop limit bytes))
      (too_many reason (w.reads (end.Cut reason) (take limit bytes)));
}
