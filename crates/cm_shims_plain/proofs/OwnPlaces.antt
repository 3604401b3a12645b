-- In a file without shims each section and item comes from itself.
use Rattle.std.proofs.Common.{◌≡◌, ◌∙◌, ℕ, zero, suc, ◌+◌, ◌<◌, List, [], ◌∷◌, length, get_or, Some, refl, ap, arith}
use Rattle.cm_binary_model.specs.Trees as sections
use Rattle.cm_binary_model.specs.Trees.{SectionTree}
use Rattle.cm_shims_plain.specs.declared.places.Place.{Place}
use Rattle.cm_shims_plain.specs.Origins.{place_in}
use Rattle.cm_shims_plain.specs.Widened.{numbers_from, own_items, own_origins}

number_at : {A : Type 0} (n i d : ℕ) (xs : List A) → d ≡ n + i → get_or (numbers_from n xs) i d ≡ n + i
number_at n i d [] e = e
number_at n zero d (x ∷ xs) e = omega arith
number_at n (suc i) d (x ∷ xs) e = number_at (suc n) i d xs (omega (arith, e)) ∙ omega arith

item_at : (s : SectionTree) (i : ℕ) → get_or (own_items s) i i ≡ i
item_at (sections.custom name bytes) i = refl
item_at (sections.core_module bytes) i = refl
item_at (sections.core_instances items) i = refl
item_at (sections.instances items) i = refl
item_at (sections.aliases items) i = refl
item_at (sections.types items) i = refl
item_at (sections.canons items) i = refl
item_at (sections.imports items) i = number_at 0 i i items (omega arith) ∙ omega arith
item_at (sections.exports items) i = refl

own : ℕ → ℕ → Place
own section item = record { section = section; item = item }

place_from : (n : ℕ) (c : List SectionTree) (section item : ℕ) → section < length c → place_in (own_origins n c) section item ≡ Some (own (n + section) item)
unfolding own
place_from n [] section item lt = absurd (omega (arith, lt))
place_from n (s ∷ c) zero item lt = rw (item_at s item) (ap (λ (k : ℕ). Some (own k item)) (omega arith))
place_from n (s ∷ c) (suc section) item lt = place_from (suc n) c section item (omega (arith, lt)) ∙ ap (λ (k : ℕ). Some (own k item)) (omega arith)

pub own_place : (c : List SectionTree) (section item : ℕ) → section < length c → place_in (own_origins 0 c) section item ≡ Some (record { section = section; item = item })
unfolding own
own_place c section item lt = place_from 0 c section item lt ∙ ap (λ (k : ℕ). Some (own k item)) (omega arith)
