-- The items of the type of an instance, read one after another.
use Rattle.std.proofs.Common.{◌≡◌, ℕ, ◌+◌, ◌<◌, List, ◌∷◌, ◌++◌, length, get_or, drop, Some, cond, refl, sym, ap, ◌∙◌, subst, add-one, drop-cons, append_assoc}
use Rattle.std.specs.BTreeMap.{BTreeMap, get_by_text}
use Rattle.std.specs.Str.{bytes_eq}
use Rattle.std.specs.declared.alloc.Global.{Global}
use Rattle.std.specs.declared.string.String.{String}
use Rattle.cm_types_arena.specs.declared.instances.Item.{Item}
use Rattle.cm_types_arena.specs.declared.instances.ItemDesc.{ItemDesc}
use Rattle.cm_validate_items.specs.Items.{AreFound, item_named, fresh_at, fresh_from}

pub put_before : (xs : List Item) (j i : ℕ) (x : Item) (old new : BTreeMap (String Global) (ℕ × ItemDesc))
    → i ≡ j + 1 → j < length xs → x ≡ get_or xs j x
    → ((q : List ℕ) → get_by_text new q ≡ cond (bytes_eq x.name q) (Some (j, x.desc)) (get_by_text old q))
    → AreFound old i (drop i xs) → AreFound new j (drop j xs)
put_before xs j i x old new next lt is put before =
    let here : drop j xs ≡ x ∷ drop i xs = rw (next, add-one, drop-cons xs j x lt, ← is) refl in
    subst (λ (ys : List Item). AreFound new j ys) (sym here)
    (λ q. put q ∙ ap (cond (bytes_eq x.name q) (Some (j, x.desc))) (before q ∙ ap (λ k. item_named k (drop i xs) q) next))

pub fresh_more : (xs : List Item) (i : ℕ) (x : Item) (old new : List ℕ)
    → i < length xs → x ≡ get_or xs i x → new ≡ old ++ fresh_at i x.desc
    → old ++ fresh_from i (drop i xs) ≡ fresh_from 0 xs → new ++ fresh_from (i + 1) (drop (i + 1) xs) ≡ fresh_from 0 xs
fresh_more xs i x old new lt is e before =
    let here : drop i xs ≡ x ∷ drop (i + 1) xs = rw (add-one, drop-cons xs i x lt, ← is) refl in
    ap (λ ys. ys ++ fresh_from (i + 1) (drop (i + 1) xs)) e
    ∙ append_assoc old (fresh_at i x.desc) (fresh_from (i + 1) (drop (i + 1) xs))
    ∙ sym (ap (λ ys. old ++ fresh_from i ys) here)
    ∙ before
