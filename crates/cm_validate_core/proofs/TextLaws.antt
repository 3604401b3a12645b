-- Texts are read from the front of a list, and each is looked for among those before it.
use Rattle.std.proofs.Common.{◌≡◌, ℕ, ◌+◌, ◌<◌, Bool, true, false, ◌&&◌, not, cond, List, ◌∷◌, length, get_or, drop, map, refl, sym, ◌∙◌, ap, add-one, drop-cons}
use Rattle.std.specs.List.{list_all, list_any}
use Rattle.std.specs.Str.{bytes_eq}
use Rattle.cm_validate_model.specs.Rules.{are_distinct_texts}
use Rattle.cm_lemmas.proofs.Bools.{and_assoc}
use Rattle.cm_lemmas.proofs.Lists.{none_of_more}
use Rattle.cm_validate_model.proofs.SharedLaws.{rest_is_distinct}

-- a text at an index of a list, as the code has it
module _ {A : Type 0} (text : A → List ℕ) (xs : List A) (i : ℕ) (x : A) (t : List ℕ) (lt : i < length xs) (is : x ≡ get_or xs i x) (same : t ≡ text x) (has : List ℕ → Bool) (all : Bool) where
  split : map text (drop i xs) ≡ t ∷ map text (drop (i + 1) xs)
  split = rw (same, add-one, drop-cons xs i x lt, ← is) refl

  -- that was seen
  pub seen_again : has t ≡ true → rest_is_distinct has (map text (drop i xs)) ≡ all → false ≡ all
  seen_again e before =
      sym (ap (λ b. (not b && list_all (λ y. not (has y)) (map text (drop (i + 1) xs))) && are_distinct_texts (t ∷ map text (drop (i + 1) xs))) e)
      ∙ sym (ap (rest_is_distinct has) split)
      ∙ before

  -- that is new
  pub seen_first : (more : List ℕ → Bool) → has t ≡ false → ((q : List ℕ) → more q ≡ cond (bytes_eq t q) true (has q))
      → rest_is_distinct has (map text (drop i xs)) ≡ all → rest_is_distinct more (map text (drop (i + 1) xs)) ≡ all
  seen_first more new grows before =
      let rest = map text (drop (i + 1) xs) in
      ap (λ b. b && are_distinct_texts rest) (none_of_more has more t rest grows)
      ∙ and_assoc (list_all (λ y. not (has y)) rest) (not (list_any (bytes_eq t) rest)) (are_distinct_texts rest)
      ∙ sym (ap (λ b. (not b && list_all (λ y. not (has y)) rest) && are_distinct_texts (t ∷ rest)) new)
      ∙ sym (ap (rest_is_distinct has) split)
      ∙ before

-- ---- entries under texts
