-- Texts are read from the front of a list, and each is looked for among those before it.
use Rattle.std.proofs.Common.{◌≡◌, ℕ, ◌+◌, ◌<◌, Bool, true, false, Option, Some, None, ◌&&◌, not, cond, List, [], ◌∷◌, ◌++◌, length, get_or, drop, map, refl, sym, ◌∙◌, ap, add-one, drop-cons}
use Rattle.std.specs.Borrow.{Bor}
use Rattle.std.specs.List.{list_all, list_any, position_from}
use Rattle.std.specs.Prelude.{is_some}
use Rattle.std.specs.Str.{bytes_eq}
use Rattle.cm_validate_model.specs.Rules.{are_distinct_texts}
use Rattle.cm_validate_core.specs.NamedValues.{names_in, place_of}
use Rattle.cm_lemmas.proofs.Bools.{and_assoc}
use Rattle.cm_lemmas.proofs.Lists.{none_of_more, texts_either_way}
use Rattle.cm_validate_model.proofs.SharedLaws.{rest_is_distinct}

-- a text at an index of a list, as the code has it
module _ {A : Type 0} (text : A → List ℕ) (xs : List A) (i : ℕ) (x : A) (t : List ℕ) (lt : i < length xs) (is : x ≡ get_or xs i x) (same : t ≡ text x) (has : List ℕ → Bool) (all : Bool) where
  split : map text (drop i xs) ≡ t ∷ map text (drop (i + 1) xs)
  split = rw (same, add-one, drop-cons xs i x lt, ← is) refl

  -- that was seen
  pub seen_again : has t ≡ true → rest_is_distinct has (map text (drop i xs)) ≡ all → false ≡ all
  seen_again e before =
      sym (ap (λ b. (not b && list_all (λ y. not (has y)) (map text (drop (i + 1) xs))) && are_distinct_texts (t ∷ map text (drop (i + 1) xs))) e)
      ∙ sym (ap (rest_is_distinct has) split)
      ∙ before

  -- that is new
  pub seen_first : (more : List ℕ → Bool) → has t ≡ false → ((q : List ℕ) → more q ≡ cond (bytes_eq t q) true (has q))
      → rest_is_distinct has (map text (drop i xs)) ≡ all → rest_is_distinct more (map text (drop (i + 1) xs)) ≡ all
  seen_first more new grows before =
      let rest = map text (drop (i + 1) xs) in
      ap (λ b. b && are_distinct_texts rest) (none_of_more has more t rest grows)
      ∙ and_assoc (list_all (λ y. not (has y)) rest) (not (list_any (bytes_eq t) rest)) (are_distinct_texts rest)
      ∙ sym (ap (λ b. (not b && list_all (λ y. not (has y)) rest) && are_distinct_texts (t ∷ rest)) new)
      ∙ sym (ap (rest_is_distinct has) split)
      ∙ before

-- ---- entries under texts

-- whether a name is there
abbrev pub has_key : {A : Type 0} → List (Bor (List ℕ) × A) → List ℕ → Bool
has_key es q = is_some (place_of q (names_in es))

-- one more name
pub key_more : {A : Type 0} (es : List (Bor (List ℕ) × A)) (e : Bor (List ℕ) × A) (q : List ℕ) → has_key (es ++ e ∷ []) q ≡ cond (bytes_eq e.0.now q) true (has_key es q)
key_more {A = A} es e q = from es 0 ∙ ap (λ b. cond b true (has_key es q)) (texts_either_way q e.0.now)
  where
    last : (b : Bool) (i : ℕ) → is_some (cond b (Some i) None) ≡ cond b true false
    last true i = refl
    last false i = refl

    next : (a b : Bool) (i : ℕ) (o p : Option ℕ) → is_some o ≡ cond b true (is_some p) → is_some (cond a (Some i) o) ≡ cond b true (is_some (cond a (Some i) p))
    next true true i o p f = refl
    next true false i o p f = refl
    next false b i o p f = f

    from : (xs : List (Bor (List ℕ) × A)) (i : ℕ)
        → is_some (position_from (bytes_eq q) i (names_in (xs ++ e ∷ []))) ≡ cond (bytes_eq q e.0.now) true (is_some (position_from (bytes_eq q) i (names_in xs)))
    from [] i = last (bytes_eq q e.0.now) i
    from (x ∷ xs) i =
        next (bytes_eq q x.0.now) (bytes_eq q e.0.now) i (position_from (bytes_eq q) (i + 1) (names_in (xs ++ e ∷ []))) (position_from (bytes_eq q) (i + 1) (names_in xs)) (from xs (i + 1))
