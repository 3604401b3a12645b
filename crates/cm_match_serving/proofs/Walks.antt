-- The first item of an instance that is not served.
use Rattle.std.proofs.Common.{◌≡◌, ◌∙◌, ℕ, zero, suc, ◌+◌, ◌<◌, ◌≤◌, true, false, List, [], ◌∷◌, ◌++◌, length, get_or, map, take, drop, Option, Some, None, is_some, refl, sym, ap, subst, arith, add-one}
use Rattle.std.specs.List.{AllByRecursion}
use Rattle.cm_types.specs.Types.{FuncTy, Ty}
use Rattle.cm_types.specs.Signatures.{NamedItem, instance}
use Rattle.cm_types_arena.specs.declared.moves.Move.{Move}
use Rattle.cm_types_arena.specs.Placed.{moved_by}
use Rattle.cm_types_arena.specs.Instances.{item_of, items_of, replaced_item}
use Rattle.cm_types_arena.specs.declared.instances.Item.{Item}
use Rattle.cm_validate_model.specs.Definitions.{NamedMember, exported_instance}
use Rattle.cm_match_model.specs.Imports.{LinkSet}
use Rattle.cm_match_model.specs.declared.fault.LinkReason.{LinkReason}
use Rattle.cm_match_model.specs.Serving.{IsItemServed, item_under}
use Rattle.cm_match_serving.specs.Answers.{JudgesExtern, JudgesItem}

-- an item as an import counts its resources
abbrev pub wanted_item : List Ty → List FuncTy → Option Move → Item → NamedItem
wanted_item types funcs by i = replaced_item (moved_by by) (item_of types funcs i)

mapped_twice : {A B C : Type 0} (g : B → C) (f : A → B) (xs : List A) → map g (map f xs) ≡ map (λ x. g (f x)) xs
mapped_twice g f [] = refl
mapped_twice g f (x ∷ xs) = ap (λ zs. g (f x) ∷ zs) (mapped_twice g f xs)

-- a list about a place
around : {A B : Type 0} (f : A → B) (xs : List A) (n : ℕ) (x : A) → n < length xs → x ≡ get_or xs n x → map f xs ≡ map f (take n xs) ++ f x ∷ map f (drop (suc n) xs)
around f [] n x lt is = absurd (omega (arith, lt))
around f (y ∷ ys) zero x lt is = ap (λ z. f z ∷ map f ys) (sym is)
around f (y ∷ ys) (suc n) x lt is = ap (λ zs. f y ∷ zs) (around f ys n x (omega (arith, lt)) is)

one_more : {A B : Type 0} (f : A → B) (P : B → Type 0) (xs : List A) (n : ℕ) (x : A) → n < length xs → x ≡ get_or xs n x → AllByRecursion P (map f (take n xs)) → P (f x) → AllByRecursion P (map f (take (suc n) xs))
one_more f P [] n x lt is h p = absurd (omega (arith, lt))
one_more f P (y ∷ ys) zero x lt is h p = (subst (λ z. P (f z)) is p, tt {0})
one_more f P (y ∷ ys) (suc n) x lt is h p = (h.0, one_more f P ys n x (omega (arith, lt)) is h.1 p)

whole : {A B : Type 0} (f : A → B) (P : B → Type 0) (xs : List A) (n : ℕ) → length xs ≤ n → AllByRecursion P (map f (take n xs)) → AllByRecursion P (map f xs)
whole f P [] n le h = tt {0}
whole f P (y ∷ ys) zero le h = absurd (omega (arith, le))
whole f P (y ∷ ys) (suc n) le h = (h.0, whole f P ys n (omega (arith, le)) h.1)

module _ (set : LinkSet) (c : ℕ) (types : List Ty) (funcs : List FuncTy) (by : Option Move) (d : ℕ) (ms : List NamedMember) (xs : List Item) where
  abbrev pub AllServed : ℕ → Type 0
  AllServed n = AllByRecursion (IsItemServed set c d ms) (map (wanted_item types funcs by) (take n xs))

  module _ (n : ℕ) (x : Item) (lt : n < length xs) (is : x ≡ get_or xs n x) where
    pub next_served : (o : Option LinkReason) → is_some o ≡ false → JudgesItem set c (wanted_item types funcs by x).desc d (item_under ms (wanted_item types funcs by x).name) o → AllServed n → AllServed (n + 1)
    next_served None e h all = subst (λ k. AllByRecursion (IsItemServed set c d ms) (map (wanted_item types funcs by) (take k xs))) (sym (add-one n)) (one_more (wanted_item types funcs by) (IsItemServed set c d ms) xs n x lt is all h)
    next_served (Some r) e h all = cc e

    pub first_unserved : (o : Option LinkReason) → is_some o ≡ true → JudgesItem set c (wanted_item types funcs by x).desc d (item_under ms (wanted_item types funcs by x).name) o → AllServed n
        → JudgesExtern set c (instance (map (replaced_item (moved_by by)) (items_of types funcs xs))) d (exported_instance ms) o
    first_unserved None e h all = cc e
    first_unserved (Some r) e h all = (
      wanted_item types funcs by x,
      record {
        front = map (wanted_item types funcs by) (take n xs);
        rest = map (wanted_item types funcs by) (drop (suc n) xs);
        split = mapped_twice (replaced_item (moved_by by)) (item_of types funcs) xs ∙ around (wanted_item types funcs by) xs n x lt is;
        before = all;
      },
      h,
    )

  pub all_served : (n : ℕ) → length xs ≤ n → AllServed n → JudgesExtern set c (instance (map (replaced_item (moved_by by)) (items_of types funcs xs))) d (exported_instance ms) None
  all_served n le all = subst (AllByRecursion (IsItemServed set c d ms)) (sym (mapped_twice (replaced_item (moved_by by)) (item_of types funcs) xs)) (whole (wanted_item types funcs by) (IsItemServed set c d ms) xs n le all)
