-- Items are looked at one after another.
use Rattle.std.proofs.Common.{◌≡◌, Option, Some, cond, if◌then◌else◌, subst, ℕ, ◌+◌, ◌<◌, Bool, true, false, ◌&&◌, List, ◌∷◌, length, get_or, map, drop, refl, sym, ap, ◌∙◌, add-one, drop-cons}
use Rattle.std.specs.List.{list_all}
use Rattle.std.specs.BTreeMap.{BTreeMap, get_by_text}
use Rattle.std.specs.Option.{option_and_then}
use Rattle.std.specs.Str.{bytes_eq}
use Rattle.std.specs.declared.alloc.Global.{Global}
use Rattle.std.specs.declared.string.String.{String}
use Rattle.cm_types.specs.declared.resource.ResourceId.{ResourceId}
use Rattle.cm_validate_instances.specs.declared.item_sketches.NamedSketch.{NamedSketch}
use Rattle.cm_validate_instances.specs.Names.{AreResources, resource_under}
use Rattle.cm_validate_instances.specs.ItemSketches.{resource_sketched, sketch_named}

-- each of these, and of those behind them, passes
module _ {A B : Type 0} (test : B → Bool) (view : A → B) (xs : List A) (i : ℕ) (x : A) (lt : i < length xs) (is : x ≡ get_or xs i x) where
  split : map view (drop i xs) ≡ view x ∷ map view (drop (i + 1) xs)
  split = rw (add-one, drop-cons xs i x lt, ← is) refl

  pub fails_here : (all : Bool) → false ≡ test (view x) → list_all test (map view (drop i xs)) ≡ all → false ≡ all
  fails_here all e before = ap (λ b. b && list_all test (map view (drop (i + 1) xs))) e ∙ sym (ap (list_all test) split) ∙ before

  pub passes_on : (all : Bool) → true ≡ test (view x) → list_all test (map view (drop i xs)) ≡ all → list_all test (map view (drop (i + 1) xs)) ≡ all
  passes_on all e before = ap (λ b. b && list_all test (map view (drop (i + 1) xs))) e ∙ sym (ap (list_all test) split) ∙ before

-- ---- resources by name

step : (b : Bool) (o : Option (Option ResourceId)) (r rest : Option ResourceId) → option_and_then (λ v. v) o ≡ rest
    → option_and_then (λ v. v) (cond b (Some r) o) ≡ (if b then r else rest)
step true o r rest q = refl
step false o r rest q = q

pub put_before : (xs : List NamedSketch) (j i : ℕ) (x : NamedSketch) (old new : BTreeMap (String Global) (Option ResourceId))
    → i ≡ j + 1 → j < length xs → x ≡ get_or xs j x
    → ((q : List ℕ) → get_by_text new q ≡ cond (bytes_eq x.name q) (Some (resource_sketched x.item)) (get_by_text old q))
    → AreResources old (map sketch_named (drop i xs)) → AreResources new (map sketch_named (drop j xs))
put_before xs j i x old new next lt is put before =
    let here : drop j xs ≡ x ∷ drop i xs = rw (next, add-one, drop-cons xs j x lt, ← is) refl in
    subst (λ (ys : List NamedSketch). AreResources new (map sketch_named ys)) (sym here)
    (λ q. ap (option_and_then (λ v. v)) (put q)
    ∙ step (bytes_eq x.name q) (get_by_text old q) (resource_sketched x.item) (resource_under (map sketch_named (drop i xs)) q) (before q))
