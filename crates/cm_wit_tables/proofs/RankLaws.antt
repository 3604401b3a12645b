-- Declarations of which none uses itself can be ranked.
use Rattle.std.proofs.Common.{◌≡◌, ℕ, zero, suc, ◌<◌, List, [], ◌∷◌, length, Option, Some, None, slice_get, refl, arith}
use Rattle.std.specs.List.{All, AllByRecursion, filter_map, cons_option}
use Rattle.std.specs.Option.{option_map_or}
use Rattle.std.proofs.lemmas.List.{length-map}
use Rattle.cm_names.specs.Keys.{Key, is_key}
use Rattle.cm_wit_graph.specs.Orders.{Needs, NeedsItself, IsWithin, IsRanked as IsRankedBy}
use Rattle.cm_wit_tables.specs.Declarations.{Declaration, keys_of, key_of, refers, target, uses, IsRanked, HasTypeCycle}
use Rattle.cm_lemmas.proofs.Lists.{position_below}

pub by_recursion : {A : Type 0} (P : A → Type 0) (xs : List A) → All P xs → AllByRecursion P xs
by_recursion P [] h = tt
by_recursion P (x ∷ xs) h = (h 0 x (omega arith), by_recursion P xs (λ k d lt. h (suc k) d (omega (arith, lt))))

pub by_places : {A : Type 0} (P : A → Type 0) (xs : List A) → AllByRecursion P xs → All P xs
by_places P [] h k d lt = absurd (omega (arith, lt))
by_places P (x ∷ xs) h zero d lt = h.0
by_places P (x ∷ xs) h (suc k) d lt = by_places P xs h.1 k d (omega (arith, lt))

pub target_below : (ds : List Declaration) (key : Key) (j : ℕ) → target ds key ≡ Some j → j < length ds
target_below ds key j e = let low = position_below (is_key key.0 key.1) 0 (keys_of ds) j e in omega (arith, low, length-map ds key_of)

one_below : (ds : List Declaration) (key : Key) (rest : List ℕ) → AllByRecursion (λ j. j < length ds) rest → (o : Option ℕ) → target ds key ≡ o → AllByRecursion (λ j. j < length ds) (cons_option o rest)
one_below ds key rest h None e = h
one_below ds key rest h (Some j) e = (target_below ds key j e, h)

pub found_below : (ds : List Declaration) (keys : List Key) → AllByRecursion (λ j. j < length ds) (filter_map (target ds) keys)
found_below ds [] = tt
found_below ds (key ∷ keys) = one_below ds key (filter_map (target ds) keys) (found_below ds keys) (target ds key) refl

pub uses_within : (ds : List Declaration) → IsWithin (length ds) (uses ds)
uses_within ds k = by_places (λ j. j < length ds) (uses ds k) (found_below ds (option_map_or refers (slice_get ds k) []))

pub ranked : (ds : List Declaration) → ((count : ℕ) (needs : Needs) → IsWithin count needs → ((k : ℕ) → NeedsItself needs k → ⊥) → (rank : ℕ → ℕ) × IsRankedBy needs rank) → (HasTypeCycle ds → ⊥) → (rank : ℕ → ℕ) × IsRanked ds rank
ranked ds can_be acyclic =
    let r = can_be (length ds) (uses ds) (uses_within ds) (λ k h. acyclic (k, h)) in
    (r.0, λ k. by_recursion (λ j. r.0 j < r.0 k) (uses ds k) (r.1 k))
