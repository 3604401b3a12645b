-- Tables that give each of their keys a number of its own.
use Rattle.std.specs.Prelude.{◌≡◌, ℕ, ◌<◌, Option, Some}
use Rattle.std.specs.declared.cmp.Ordering.{Ordering}
use Rattle.cm_types_numbers.specs.declared.key.Key.{Key}
use Rattle.cm_types_numbers.specs.contracts.key.KeyOrd.TheImpl as key_ord

-- the order of nodes in a table
abbrev pub key_order : Key → Key → Ordering
key_order = (key_ord.ghosts).cmp

-- Each number is below the count, and is that of one key alone.
pub record IsOneToOne {K : Type 0} (number_of : K → Option ℕ) (count : ℕ) : Type 0 where
  pub below : (k : K) (n : ℕ) → number_of k ≡ Some n → n < count
  pub distinct : (j k : K) (n : ℕ) → number_of j ≡ Some n → number_of k ≡ Some n → j ≡ k

-- Each key that has a number keeps it.
abbrev pub KeepsNumbers : {K : Type 0} → (K → Option ℕ) → (K → Option ℕ) → Type 0
KeepsNumbers {K} old new = (k : K) (n : ℕ) → old k ≡ Some n → new k ≡ Some n
