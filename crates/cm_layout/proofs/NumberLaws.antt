-- The sizes of the numbers of cases and of sets of labels are the least that serve.
use Rattle.std.proofs.Common.{◌≡◌, ℕ, ◌*◌, ◌≤◌, ◌<◌, ◌^◌, ◌⊎◌, nat_le, inl, inr, refl, arith, subst}
use Rattle.std.proofs.lemmas.Bool.{cases_Bool, leb-true, leb-false}
use Rattle.cm_layout.specs.Sizes.{IsLeastBytes, discriminant_size, flags_size}

least_one : (P : ℕ → Type 0) → P 1 → IsLeastBytes P 1
least_one P h = record { one_of = inl refl; enough = h; least = λ b o k. at_least_one b o }
  where
    at_least_one : (b : ℕ) → (b ≡ 1) ⊎ (b ≡ 2) ⊎ (b ≡ 4) → 1 ≤ b
    at_least_one b o = omega arith

least_two : (P : ℕ → Type 0) → (P 1 → ⊥) → P 2 → IsLeastBytes P 2
least_two P not_one h = record { one_of = inr (inl refl); enough = h; least = λ b o k. at_least_two P not_one b o k }
  where
    at_least_two : (P : ℕ → Type 0) → (P 1 → ⊥) → (b : ℕ) → (b ≡ 1) ⊎ (b ≡ 2) ⊎ (b ≡ 4) → P b → 2 ≤ b
    at_least_two P not_one b (inl e) k = absurd (not_one (subst P e k))
    at_least_two P not_one b (inr o) k = omega arith

least_four : (P : ℕ → Type 0) → (P 1 → ⊥) → (P 2 → ⊥) → P 4 → IsLeastBytes P 4
least_four P not_one not_two h = record { one_of = inr (inr refl); enough = h; least = λ b o k. at_least_four P not_one not_two b o k }
  where
    at_least_four : (P : ℕ → Type 0) → (P 1 → ⊥) → (P 2 → ⊥) → (b : ℕ) → (b ≡ 1) ⊎ (b ≡ 2) ⊎ (b ≡ 4) → P b → 4 ≤ b
    at_least_four P not_one not_two b (inl e) k = absurd (not_one (subst P e k))
    at_least_four P not_one not_two b (inr (inl e)) k = absurd (not_two (subst P e k))
    at_least_four P not_one not_two b (inr (inr e)) k = omega arith

pub discriminants : (n : ℕ) → n ≤ 2 ^ 32 → IsLeastBytes (λ b. n ≤ 256 ^ b) (discriminant_size n)
discriminants n h = elim (cases_Bool (nat_le n 256)) [
  | inl y ↦ rw y (least_one (λ b. n ≤ 256 ^ b) (leb-true n 256 y))
  | inr f ↦
      let over : 256 < n = leb-false n 256 f in
      elim (cases_Bool (nat_le n 65536)) [
        | inl y ↦ rw (f, y) (least_two (λ b. n ≤ 256 ^ b) (λ k. omega arith) (leb-true n 65536 y))
        | inr g ↦ let more : 65536 < n = leb-false n 65536 g in rw (f, g) (least_four (λ b. n ≤ 256 ^ b) (λ k. omega arith) (λ k. omega arith) h)
      ]
]

pub flag_sets : (n : ℕ) → n ≤ 32 → IsLeastBytes (λ b. n ≤ 8 * b) (flags_size n)
flag_sets n h = elim (cases_Bool (nat_le n 8)) [
  | inl y ↦ rw y (least_one (λ b. n ≤ 8 * b) (leb-true n 8 y))
  | inr f ↦
      let over : 8 < n = leb-false n 8 f in
      elim (cases_Bool (nat_le n 16)) [
        | inl y ↦ rw (f, y) (least_two (λ b. n ≤ 8 * b) (λ k. omega arith) (leb-true n 16 y))
        | inr g ↦ let more : 16 < n = leb-false n 16 g in rw (f, g) (least_four (λ b. n ≤ 8 * b) (λ k. omega arith) (λ k. omega arith) h)
      ]
]
