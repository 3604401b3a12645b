-- Memories stay memories of bytes.
use Rattle.std.proofs.Common.{◌≡◌, ℕ, zero, suc, ◌+◌, ◌*◌, ◌<◌, ◌⊎◌, inl, inr, List, [], ◌∷◌, ◌++◌, take, drop, length, refl, sym, subst, ◌∙◌, arith}
use Rattle.std.specs.Prelude.{◌^◌, replicate, slice_index}
use Rattle.std.proofs.lemmas.Bool.{cases_eq}
use Rattle.cm_abi_model.specs.Bytes.{AreBytes}
use Rattle.cm_abi_model.specs.Stores.{Framed, Holds, IsBeside, Placed}
use Rattle.cm_machine_model.specs.declared.limits.TheConstants.{PAGE_SIZE}
use Rattle.cm_machine_model.specs.Memories.{after_growth, after_write}
use Rattle.cm_machine_laws.proofs.WrittenBytes.{ArePlacedBytes}

append_bytes : (xs ys : List ℕ) → AreBytes xs → AreBytes ys → AreBytes (xs ++ ys)
append_bytes [] ys x y i = y i
append_bytes (b ∷ xs) ys x y zero = x zero
append_bytes (b ∷ xs) ys x y (suc i) = append_bytes xs ys (λ j. x (suc j)) y i

none_bytes : AreBytes []
none_bytes i = omega arith

take_bytes : (n : ℕ) (xs : List ℕ) → AreBytes xs → AreBytes (take n xs)
take_bytes zero xs x i = none_bytes i
take_bytes (suc n) [] x i = none_bytes i
take_bytes (suc n) (b ∷ xs) x zero = x zero
take_bytes (suc n) (b ∷ xs) x (suc i) = take_bytes n xs (λ j. x (suc j)) i

drop_bytes : (n : ℕ) (xs : List ℕ) → AreBytes xs → AreBytes (drop n xs)
drop_bytes zero xs x i = x i
drop_bytes (suc n) [] x i = none_bytes i
drop_bytes (suc n) (b ∷ xs) x i = drop_bytes n xs (λ j. x (suc j)) i

zero_bytes : (n : ℕ) → AreBytes (replicate n 0)
zero_bytes zero i = none_bytes i
zero_bytes (suc n) zero = omega arith
zero_bytes (suc n) (suc i) = zero_bytes n i

pub written_bytes : (m bytes : List ℕ) (at : ℕ) → AreBytes m → AreBytes bytes → AreBytes (after_write m at bytes)
written_bytes m bytes at x y =
    append_bytes (take at m ++ bytes) (drop (at + length bytes) m) (append_bytes (take at m) bytes (take_bytes at m x) y) (drop_bytes (at + length bytes) m x)

pub grown_bytes : (m : List ℕ) (pages : ℕ) → AreBytes m → AreBytes (after_growth m pages)
grown_bytes m pages x = append_bytes m (replicate (pages * PAGE_SIZE) 0) x (zero_bytes (pages * PAGE_SIZE))

-- an address is beside bytes that a memory holds, or has one of them
beside_or : (new : List ℕ) (bs : List Placed) (a : ℕ) → ArePlacedBytes bs → Holds new bs → IsBeside a bs ⊎ (slice_index new a < 2 ^ 8)
beside_or new [] a small holds = inl tt
beside_or new (b ∷ bs) a small holds = elim (cases_eq a b.0) [
  | inl same ↦ inr (subst (λ n. slice_index new n < 2 ^ 8) (sym same) (subst (λ n. n < 2 ^ 8) (sym holds.0) small.0))
  | inr apart ↦ elim (beside_or new bs a small.1 holds.1) [ inl beside ↦ inl (apart, beside) | inr byte ↦ inr byte ]
]

-- where bytes are stored, and all else stays, a memory stays one of bytes
pub stored_bytes : (old new : List ℕ) (bs : List Placed) → ArePlacedBytes bs → Holds new bs → Framed old new bs → AreBytes old → AreBytes new
stored_bytes old new bs small holds framed bytes a = elim (beside_or new bs a small holds) [
  | inl beside ↦ subst (λ n. n < 2 ^ 8) (sym (framed.others_stay a beside)) (bytes a)
  | inr byte ↦ byte
]
