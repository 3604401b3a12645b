-- The numbers after definitions one after another.
use Rattle.std.proofs.Common.{◌≡◌, ℕ, suc, ◌+◌, ◌<◌, List, [], ◌∷◌, ◌++◌, length, drop, map, get_or, refl, sym, ap, ◌∙◌, add-one}
use Rattle.std.proofs.Math.Seq.{drop-cons}
use Rattle.cm_binary_model.specs.Trees.{CanonTree, CoreInstanceTree, section_tree}
use Rattle.cm_binary_model.specs.declared.section.Section.{Section}
use Rattle.cm_validate_model.specs.Items.{Item, all_items, canon_item, core_instance_item, items_of}
use Rattle.cm_validate_items.specs.Numbers.{Numbers, numbers_after, numbers_after_all}

pub numbers_both : (n : Numbers) (xs ys : List Item) → numbers_after_all n (xs ++ ys) ≡ numbers_after_all (numbers_after_all n xs) ys
numbers_both n [] ys = refl
numbers_both n (x ∷ xs) ys = numbers_both (numbers_after n x) xs ys

pub core_instances_add_nothing : (n : Numbers) (xs : List CoreInstanceTree) → n ≡ numbers_after_all n (map core_instance_item xs)
core_instances_add_nothing n [] = refl
core_instances_add_nothing n (x ∷ xs) = core_instances_add_nothing n xs

pub canons_add_nothing : (n : Numbers) (xs : List CanonTree) → n ≡ numbers_after_all n (map canon_item xs)
canons_add_nothing n [] = refl
canons_add_nothing n (x ∷ xs) = canons_add_nothing n xs

-- a section, and then those behind it
pub section_more : (old new : Numbers) (xs : List Section) (i : ℕ) (x : Section) → i < length xs → x ≡ get_or xs i x → new ≡ numbers_after_all old (items_of (section_tree x))
    → numbers_after_all new (all_items (map section_tree (drop (i + 1) xs))) ≡ numbers_after_all old (all_items (map section_tree (drop i xs)))
section_more old new xs i x lt at e =
    let rest = all_items (map section_tree (drop (suc i) xs)) in
    let split : drop i xs ≡ x ∷ drop (suc i) xs = drop-cons xs i x lt ∙ ap (λ (y : Section). y ∷ drop (suc i) xs) (sym at) in
    ap (λ (k : ℕ). numbers_after_all new (all_items (map section_tree (drop k xs)))) (add-one i)
    ∙ (ap (λ (n : Numbers). numbers_after_all n rest) e
    ∙ (sym (numbers_both old (items_of (section_tree x)) rest)
    ∙ ap (λ (ys : List Section). numbers_after_all old (all_items (map section_tree ys))) (sym split)))
