-- Grammars of bytes: which bytes spell a value, and what is the first fault of bytes that do not
-- begin with a spelling. A grammar is built from steps, and each step says both, so the two cannot
-- part.
use Rattle.std.specs.Prelude.{◌≡◌, ◌≢◌, ℕ, zero, suc, ◌-◌, ◌<◌, ◌⊎◌, Bool, true, false, List}
use Rattle.std.specs.Prelude.{[], ◌∷◌, ◌++◌, length, take, drop, Result, Ok, Err, ℤ, nat_lt, ◌==◌}
use Rattle.std.specs.Prelude.{if◌then◌else◌}
use Rattle.cm_leb.specs.declared.fault.LebFault.{LebFault}
use Rattle.cm_leb.specs.declared.fault.LebFault.TheVariants.{BadLastBits, TooLong}
use Rattle.cm_leb.specs.declared.fault.LebFault.TheVariants.{Truncated}
use Rattle.cm_leb.specs.Numbers.{SpellsUnsigned, SpellsSigned, IsTruncated, IsTooLong}
use Rattle.cm_leb.specs.Numbers.{HasBadUnsignedBits, HasBadSignedBits}
use Rattle.cm_leb.specs.NumbersRead.{unsigned_at, signed_at}
use Rattle.cm_binary_grammar.specs.declared.fault.Fault.{Fault}
use Rattle.cm_binary_grammar.specs.declared.fault.End.{End}
use Rattle.cm_binary_grammar.specs.Faults.{flaw, want, and_then}

-- Values that stand at the front of bytes. `Spells x bytes`: the bytes are a spelling of x.
-- `Faulty e bytes f`: the bytes, which end at e, do not begin with a spelling, and f is their first
-- fault. `reads` computes both.
pub record Grammar (R A : Type 0) : Type 1 where
  pub Spells : A → List ℕ → Type 0
  pub Faulty : End R → List ℕ → Fault R → Type 0
  pub reads : End R → List ℕ → Result (A × List ℕ) (Fault R)

-- The value x, of no bytes.
abbrev pub done : {R A : Type 0} → A → Grammar R A
done x = record {
  Spells = λ y bytes. (y ≡ x) × (bytes ≡ []);
  Faulty = λ e bytes f. ⊥;
  reads = λ e bytes. Ok (x, bytes);
}

-- One thing, and then another that may depend on it. A fault of the second is the first one only
-- where the first was spelled.
infixl 10 ◌>>=◌
abbrev pub ◌>>=◌ : {R A B : Type 0} → Grammar R A → (A → Grammar R B) → Grammar R B
g >>= next = record {
  Spells = λ y bytes. (x : _) × (front : List ℕ) × (rest : List ℕ) × g.Spells x front
      × (next x).Spells y rest × (bytes ≡ front ++ rest);
  Faulty = λ e bytes f. g.Faulty e bytes f
      ⊎ ((x : _) × (front : List ℕ) × (rest : List ℕ) × g.Spells x front × (bytes ≡ front ++ rest)
      × (next x).Faulty e rest f);
  reads = λ e bytes. and_then (g.reads e bytes) (λ x. (next x.0).reads e x.1);
}

-- No value: a fault at the place itself, also where no byte stands there.
abbrev pub fail : {R A : Type 0} → R → Grammar R A
fail reason = record {
  Spells = λ x bytes. ⊥;
  Faulty = λ e bytes f. f ≡ flaw (length bytes) reason;
  reads = λ e bytes. Err (flaw (length bytes) reason);
}

-- What the answer of a table comes to, with the bytes behind the code.
abbrev pub code_answer : {R K : Type 0} → List ℕ → Result K R → Result (K × List ℕ) (Fault R)
code_answer rest (Ok k) = Ok (k, rest)
code_answer rest (Err reason) = Err (flaw (suc (length rest)) reason)

abbrev pub code_reads : {R K : Type 0} → (ℕ → Result K R) → End R → List ℕ
    → Result (K × List ℕ) (Fault R)
code_reads table e [] = Err (want e)
code_reads table e (b ∷ rest) = code_answer rest (table b)

-- A byte of a table, which says what the byte stands for, or what is wrong with it.
abbrev pub code : {R K : Type 0} → (ℕ → Result K R) → Grammar R K
code table = record {
  Spells = λ k bytes. (b : ℕ) × (bytes ≡ b ∷ []) × (table b ≡ Ok k);
  Faulty = λ e bytes f. ((bytes ≡ []) × (f ≡ want e))
      ⊎ ((b : ℕ) × (rest : List ℕ) × (reason : _) × (bytes ≡ b ∷ rest) × (table b ≡ Err reason)
      × (f ≡ flaw (length bytes) reason));
  reads = code_reads table;
}

-- No value: a byte that no table has, and what is wrong with it.
abbrev pub refuse : {R A : Type 0} → (ℕ → R) → Grammar R A
refuse reason = code (λ b. Err (reason b))

-- Reading by the first byte.
abbrev pub ahead_reads : {R A : Type 0} → (ℕ → Grammar R A) → End R → List ℕ
    → Result (A × List ℕ) (Fault R)
ahead_reads choice e [] = Err (want e)
ahead_reads choice e (b ∷ rest) = (choice b).reads e (b ∷ rest)

-- What the first byte chooses, that byte included.
abbrev pub ahead : {R A : Type 0} → (ℕ → Grammar R A) → Grammar R A
ahead choice = record {
  Spells = λ x bytes. (b : ℕ) × (rest : List ℕ) × (bytes ≡ b ∷ rest) × (choice b).Spells x bytes;
  Faulty = λ e bytes f. ((bytes ≡ []) × (f ≡ want e))
      ⊎ ((b : ℕ) × (rest : List ℕ) × (bytes ≡ b ∷ rest) × (choice b).Faulty e bytes f);
  reads = ahead_reads choice;
}

-- What is wrong with bytes that begin with no number: want of a byte is a fault of its own, all
-- else is a fault at the number's first byte.
abbrev pub number_fault : {R : Type 0} → R → End R → List ℕ → LebFault → Fault R
number_fault bad e bytes Truncated = want e
number_fault bad e bytes TooLong = flaw (length bytes) bad
number_fault bad e bytes BadLastBits = flaw (length bytes) bad

abbrev pub number_reads : {R N : Type 0} → R → End R → List ℕ → Result (N × List ℕ) LebFault
    → Result (N × List ℕ) (Fault R)
number_reads bad e bytes (Ok x) = Ok x
number_reads bad e bytes (Err f) = Err (number_fault bad e bytes f)

-- A number of 32 bits without a sign.
abbrev pub number : {R : Type 0} → R → Grammar R ℕ
number bad = record {
  Spells = λ n bytes. SpellsUnsigned 32 bytes n;
  Faulty = λ e bytes f. (IsTruncated 32 bytes × (f ≡ want e))
      ⊎ ((IsTooLong 32 bytes ⊎ HasBadUnsignedBits 32 bytes) × (f ≡ flaw (length bytes) bad));
  reads = λ e bytes. number_reads bad e bytes (unsigned_at 32 bytes);
}

-- A number of 33 bits with a sign.
abbrev pub signed : {R : Type 0} → R → Grammar R ℤ
signed bad = record {
  Spells = λ z bytes. SpellsSigned 33 bytes z;
  Faulty = λ e bytes f. (IsTruncated 33 bytes × (f ≡ want e))
      ⊎ ((IsTooLong 33 bytes ⊎ HasBadSignedBits 33 bytes) × (f ≡ flaw (length bytes) bad));
  reads = λ e bytes. number_reads bad e bytes (signed_at 33 bytes);
}

-- So many bytes, whatever they are.
abbrev pub raw : {R : Type 0} → ℕ → Grammar R (List ℕ)
raw n = record {
  Spells = λ x bytes. (length bytes ≡ n) × (x ≡ bytes);
  Faulty = λ e bytes f. (length bytes < n) × (f ≡ want e);
  reads = λ e bytes. if nat_lt (length bytes) n then Err (want e)
      else Ok (take n bytes, drop n bytes);
}

-- What g says, of a value that passes the test. One that does not is a fault at its first byte.
abbrev pub check : {R A : Type 0} → (A → Bool) → R → Grammar R A → Grammar R A
check test reason g = record {
  Spells = λ x bytes. g.Spells x bytes × (test x ≡ true);
  Faulty = λ e bytes f. g.Faulty e bytes f
      ⊎ ((x : _) × (front : List ℕ) × (rest : List ℕ) × g.Spells x front × (bytes ≡ front ++ rest)
      × (test x ≡ false) × (f ≡ flaw (length bytes) reason));
  reads = λ e bytes. and_then (g.reads e bytes)
      (λ x. if test x.0 then Ok x else Err (flaw (length bytes) reason));
}

-- The bytes and the literal first differ where so many bytes of the bytes are left.
pub record DifferAt (literal bytes : List ℕ) (left : ℕ) : Type 0 where
  pub same : List ℕ
  pub found : ℕ
  pub rest : List ℕ
  pub expected : ℕ
  pub tail : List ℕ
  pub bytes_are : bytes ≡ same ++ found ∷ rest
  pub literal_is : literal ≡ same ++ expected ∷ tail
  pub differ : found ≢ expected
  pub place : left ≡ suc (length rest)

-- The bytes are a beginning of the literal, and not all of it.
pub record IsBeginning (literal bytes : List ℕ) : Type 0 where
  pub next : ℕ
  pub tail : List ℕ
  pub literal_is : literal ≡ bytes ++ next ∷ tail

-- Reading a literal byte after byte.
abbrev pub fixed_reads : {R : Type 0} → List ℕ → R → End R → List ℕ
    → Result (Unit {0} × List ℕ) (Fault R)
fixed_reads [] reason e bytes = Ok (tt, bytes)
fixed_reads (c ∷ literal) reason e [] = Err (want e)
fixed_reads (c ∷ literal) reason e (b ∷ bytes) =
    if b == c then fixed_reads literal reason e bytes else Err (flaw (suc (length bytes)) reason)

-- This literal: these bytes. A fault is at the first byte that differs.
abbrev pub fixed : {R : Type 0} → List ℕ → R → Grammar R (Unit {0})
fixed literal reason = record {
  Spells = λ x bytes. bytes ≡ literal;
  Faulty = λ e bytes f. (IsBeginning literal bytes × (f ≡ want e))
      ⊎ ((left : ℕ) × DifferAt literal bytes left × (f ≡ flaw left reason));
  reads = fixed_reads literal reason;
}

-- So many things one after the other, each of the grammar that the state says, which goes on to the
-- next state by the value.
abbrev pub chain : {R A S : Type 0} → (S → Grammar R A) → (S → A → S) → ℕ → S → Grammar R (List A)
chain g next zero s = done []
chain g next (suc n) s = g s >>= λ x. chain g next n (next s x) >>= λ xs. done (x ∷ xs)

-- So many things of one grammar.
abbrev pub times : {R A : Type 0} → Grammar R A → ℕ → Grammar R (List A)
times g n = chain (λ (s : Unit {0}). g) (λ s x. s) n tt

-- A thing out of a stock of so many: with an empty stock it is a fault at its place. What stands
-- inside it has one less.
abbrev pub from_stock : {R A : Type 0} → (ℕ → Grammar R A) → R → ℕ → Grammar R A
from_stock g reason zero = fail reason
from_stock g reason (suc room) = g room

-- A count, and so many things.
abbrev pub vec : {R A : Type 0} → R → Grammar R A → Grammar R (List A)
vec bad g = number bad >>= λ n. times g n

-- A count, and so many things out of a stock: each takes of it what it costs.
abbrev pub stocked : {R A : Type 0} → R → (ℕ → Grammar R A) → (A → ℕ) → ℕ → Grammar R (List A)
stocked bad g cost stock = number bad >>= λ n. chain g (λ left x. left - cost x) n stock

-- A count, and so many bytes.
abbrev pub blob : {R : Type 0} → R → Grammar R (List ℕ)
blob bad = number bad >>= λ n. raw n
