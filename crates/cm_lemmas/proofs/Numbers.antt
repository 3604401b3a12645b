-- Numbers: sums, products and bounds.
use Rattle.std.proofs.Common.{ℕ, ◌<◌, ◌^◌, ◌≤◌, ◌%◌, ◌≡◌, arith, nat_lt, true, false, max, ◌*◌, zero, suc, Bool, refl, ◌↔◌, IsTrue, sym, ◌∙◌, subst, nat_eq}
use Rattle.std.proofs.Math.Nat.{mod-eq_of_lt}
use Rattle.std.proofs.Math.Pow.{pow_mono}
use Rattle.std.proofs.lemmas.Bool.{eqb-false}
use Rattle.std.proofs.lemmas.Bool.Decides.{nat_tests}
use Rattle.std.specs.Prelude.{◌==◌, if◌then◌else◌, ◌&&◌, slice_index, replicate}

pub whole_word : (bits labels : ℕ) → bits < 2 ^ 32 → 32 ≤ labels → bits % 2 ^ labels ≡ bits
whole_word bits labels small many = mod-eq_of_lt (omega (arith, pow_mono {i = 32} {j = labels} many))

pub lt_true : (a b : ℕ) → a < b → nat_lt a b ≡ true
lt_true a b lt = grind (arith, nat_tests, lt)

pub lt_false : (a b : ℕ) → b ≤ a → nat_lt a b ≡ false
lt_false a b le = grind (arith, nat_tests, le)

pub not_zero : (n : ℕ) → (n == 0) ≡ false → 0 < n
not_zero n z = let f : n ≡ 0 → ⊥ = eqb-false n 0 z in omega arith

-- a list of fixed length has at least its element's nodes
pub times_least : (n x : ℕ) → x ≤ max n 1 * x
times_least zero x = omega arith
times_least (suc m) x = let e : max (suc m) 1 ≡ suc m = omega arith in rw e (omega arith)

pub hit_both : (a b : Bool) → a ≡ true → b ≡ true → ◌≡◌ {A = ℕ} (if a && b then 1 else 0) 1
hit_both true true e f = refl
hit_both true false e f = absurd (cc (f))
hit_both false b e f = absurd (cc (e))

pub zero_at : (n a : ℕ) → slice_index (replicate n 0) a ≡ 0
zero_at zero a = refl
zero_at (suc n) zero = refl
zero_at (suc n) (suc a) = zero_at n a

pub eq_of : (x y : ℕ) → (x == y) ≡ true → x ≡ y
eq_of x y e = grind (arith, nat_tests)

pub eq_self : (x : ℕ) → (x == x) ≡ true
eq_self x = grind (arith, nat_tests)

pub test_tells : (m n : ℕ) (same : Bool) (P : Type 0) → same ≡ (m == n) → (m ≡ n) ↔ P → IsTrue same ↔ P
test_tells m n same P is tells = (
  λ t. tells.0 (eq_of m n (sym is ∙ t)),
  λ p. is ∙ subst (λ (k : ℕ). (m == k) ≡ true) (tells.1 p) (eq_self m),
)

pub less_of : (j count : ℕ) → nat_lt j count ≡ true → j < count
less_of j count e = grind (arith, nat_tests)

pub nat_eq_of : (a b : ℕ) → nat_eq a b ≡ true → a ≡ b
nat_eq_of a b e = grind (arith, nat_tests)

pub eq_true : (x y : ℕ) → x ≡ y → (x == y) ≡ true
eq_true x y e = grind (arith, nat_tests)

pub below_more : (m n p : ℕ) → m ≤ n → p < m → p < n
below_more m n p le lt = omega arith
