-- Bytes poked into memory, one after another.
use Rattle.std.proofs.Common.{◌≡◌, ℕ, zero, suc, ◌+◌, ◌/◌, ◌%◌, ◌<◌, ◌≤◌, ◌-◌, List, [], ◌∷◌, ◌++◌, length, take, drop, refl, sym, ap, ◌∙◌, arith}
use Rattle.std.specs.Prelude.{slice_set}
use Rattle.std.proofs.lemmas.List.{append_assoc}
use borrow.Rule.Slice.PartMut.{put_mid}
use Rattle.cm_abi_model.specs.Stores.{Placed, placed, bytes_of, poke}

pub poke_both : (xs ys : List Placed) (m : List ℕ) → poke (xs ++ ys) m ≡ poke ys (poke xs m)
poke_both [] ys m = refl
poke_both (x ∷ xs) ys m = poke_both xs ys (slice_set m x.0 x.1)

pub set_length : (m : List ℕ) (i x : ℕ) → length (slice_set m i x) ≡ length m
set_length [] i x = refl
set_length (y ∷ m) zero x = refl
set_length (y ∷ m) (suc i) x = ap suc (set_length m i x)

pub number_done : (size i at rest : ℕ) (m total : List ℕ) → size ≤ i → poke (placed (at + i) (bytes_of (size - i) rest)) m ≡ total → m ≡ total
unfolding bytes_of
number_done size i at rest m total past so_far =
    let none : size - i ≡ 0 = omega arith in
    rw none at so_far

-- one more byte of a number was written
pub number_next : (size i at rest : ℕ) (m total : List ℕ) → i < size
    → poke (placed (at + i) (bytes_of (size - i) rest)) m ≡ total
    → poke (placed (at + (i + 1)) (bytes_of (size - (i + 1)) (rest / 256))) (slice_set m (at + i) (rest % 256)) ≡ total
unfolding bytes_of
number_next size i at rest m total lt so_far =
    let more : size - i ≡ suc (size - (i + 1)) = omega arith in
    let place : at + (i + 1) ≡ at + i + 1 = omega arith in
    rw place (rw more at so_far)

take_set : (m : List ℕ) (at y : ℕ) → at < length m → take (suc at) (slice_set m at y) ≡ take at m ++ y ∷ []
take_set [] at y lt = absurd (omega (arith, lt))
take_set (x ∷ m) zero y lt = refl
take_set (x ∷ m) (suc at) y lt = ap (λ xs. x ∷ xs) (take_set m at y (omega (arith, lt)))

drop_set : (m : List ℕ) (at y : ℕ) → drop (suc at) (slice_set m at y) ≡ drop (suc at) m
drop_set [] at y = refl
drop_set (x ∷ m) zero y = refl
drop_set (x ∷ m) (suc at) y = drop_set m at y

drop_next : (m : List ℕ) (at n : ℕ) → drop (suc n) (drop at m) ≡ drop n (drop (suc at) m)
drop_next [] zero zero = refl
drop_next [] zero (suc n) = refl
drop_next [] (suc at) zero = refl
drop_next [] (suc at) (suc n) = refl
drop_next (x ∷ m) zero n = refl
drop_next (x ∷ m) (suc at) n = drop_next m at n

whole : (m : List ℕ) (at : ℕ) → take at m ++ drop at m ≡ m
whole [] zero = refl
whole [] (suc at) = refl
whole (x ∷ m) zero = refl
whole (x ∷ m) (suc at) = ap (λ xs. x ∷ xs) (whole m at)

poked : (ys : List ℕ) (at : ℕ) (m : List ℕ) → at + length ys ≤ length m → take at m ++ (ys ++ drop (length ys) (drop at m)) ≡ poke (placed at ys) m
poked [] at m inside = whole m at
poked (y ∷ ys) at m inside =
    let set = slice_set m at y in
    let short : suc at + length ys ≤ length set = rw (set_length m at y) (omega (arith, inside)) in
    let rest : take (suc at) set ++ (ys ++ drop (length ys) (drop (suc at) set)) ≡ poke (placed (suc at) ys) set = poked ys (suc at) set short in
    let next : at + 1 ≡ suc at = omega arith in
    let front : take (suc at) set ≡ take at m ++ y ∷ [] = take_set m at y (omega (arith, inside)) in
    let back : drop (length ys) (drop (suc at) set) ≡ drop (suc (length ys)) (drop at m) = ap (drop (length ys)) (drop_set m at y) ∙ sym (drop_next m at (length ys)) in
    rw next (sym (ap (λ xs. xs ++ (ys ++ drop (length ys) (drop (suc at) set))) front
    ∙ (append_assoc (take at m) (y ∷ []) (ys ++ drop (length ys) (drop (suc at) set))
    ∙ ap (λ xs. take at m ++ (y ∷ (ys ++ xs))) back)) ∙ rest)

-- a part of a slice was written over
pub part_written : (at k : ℕ) (m ys zs : List ℕ) → ys ≡ zs → k ≡ length zs → at + length zs ≤ length m → put_mid at k m ys ≡ poke (placed at zs) m
part_written at k m ys zs is size inside = rw (is, size) (poked zs at m inside)
