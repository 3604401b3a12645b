-- Texts that are added part by part.
use Rattle.std.proofs.Common.{◌≡◌, ℕ, zero, suc, ◌+◌, ◌<◌, ◌≤◌, List, [], ◌∷◌, ◌++◌, length, map, drop, get_or, refl, sym, ap, subst, ◌∙◌, append_assoc, append-nil, drop-cons, add-one, arith}
use Rattle.std.proofs.lemmas.List.{drop_all}
use Rattle.std.specs.List.{flat_map}
use Rattle.std.specs.Prelude.{codes}
use Rattle.cm_wit_reading.specs.declared.types.WitType.{WitType}
use Rattle.cm_wit_reading.specs.declared.signatures.Typed as typed_code
use Rattle.cm_wit_reading.specs.Types.{Ty, types_from}
use Rattle.cm_wit_reading.specs.TypeViews.{type_tree}
use Rattle.cm_wit_reading.specs.SignatureViews.{typed_tree}
use Rattle.cm_wit_reading.specs.declared.interfaces.UsedName as used_name
use Rattle.cm_wit_reading.specs.declared.interfaces.Case as case_item
use Rattle.cm_wit_reading.specs.declared.interfaces.ResourceFunc as func_item
use Rattle.cm_wit_reading.specs.declared.interfaces.InterfaceItem as interface_part
use Rattle.cm_wit_reading.specs.declared.worlds.WorldItem as world_part
use Rattle.cm_wit_reading.specs.declared.file.FileItem as file_part
use Rattle.cm_wit_reading.specs.Views.{used_name_tree, case_tree, resource_func_tree, interface_item_tree, world_item_tree, file_item_tree}
use Rattle.cm_wit_package.specs.Printed.{with_commas, type_text, types_text, further_types_text, typed_text, used_text, case_text, separator, resource_rest, resource_func_line, interface_item_lines, world_item_line, file_item_lines}

pub ruleset print_laws = (append_assoc, append-nil)

-- These were added, and what is left makes all.
pub record Prints {A : Type 0} (text : A → List ℕ) (xs : List A) (i : ℕ) (start now : List ℕ) : Type 0 where
  pub is : now ++ flat_map text (drop i xs) ≡ start ++ flat_map text xs

pub prints_none : {A : Type 0} (text : A → List ℕ) (xs : List A) (start : List ℕ) → Prints text xs 0 start start
prints_none text xs start = record { is = refl }

pub prints_next : {A : Type 0} (text : A → List ℕ) (xs : List A) (i : ℕ) (x : A) (start now new : List ℕ) → i < length xs → x ≡ get_or xs i x → new ≡ now ++ text x → Prints text xs i start now → Prints text xs (i + 1) start new
prints_next {A} text xs i x start now new lt e p s = record {
  is = ap (λ (z : List ℕ). z ++ flat_map text (drop (i + 1) xs)) p
      ∙ (append_assoc now (text x) (flat_map text (drop (i + 1) xs))
      ∙ (sym (ap (λ (ys : List A). now ++ flat_map text ys) (rest_is)) ∙ s.is));
}
  where
    rest_is : drop i xs ≡ x ∷ drop (i + 1) xs
    rest_is = drop-cons xs i x lt ∙ (ap (λ (a : A). a ∷ drop (suc i) xs) (sym e) ∙ rw (add-one i) refl)

pub prints_all : {A : Type 0} (text : A → List ℕ) (xs : List A) (i : ℕ) (start now : List ℕ) → length xs ≤ i → Prints text xs i start now → now ≡ start ++ flat_map text xs
prints_all {A} text xs i start now le s = sym (append-nil now) ∙ (sym (ap (λ (ys : List A). now ++ flat_map text ys) (drop_all i xs le)) ∙ s.is)

pub ruleset each_laws = (prints_none, prints_next, prints_all, append_assoc)

-- ---- lists as trees

each_view : {A B : Type 0} (text : B → List ℕ) (view : A → B) (xs : List A) → flat_map (λ x. text (view x)) xs ≡ flat_map text (map view xs)
each_view text view [] = refl
each_view text view (x ∷ xs) = ap (λ (ys : List ℕ). text (view x) ++ ys) (each_view text view xs)

commas_view : {A B : Type 0} (text : B → List ℕ) (view : A → B) (xs : List A) → with_commas (λ x. text (view x)) xs ≡ with_commas text (map view xs)
commas_view text view [] = refl
commas_view text view (x ∷ xs) = ap (λ (ys : List ℕ). text (view x) ++ ys) (each_view (λ y. codes ", " ++ text y) view xs)

pub typed_view : (xs : List typed_code.Typed) → with_commas (λ x. typed_text (typed_tree x)) xs ≡ with_commas typed_text (map typed_tree xs)
typed_view xs = commas_view typed_text typed_tree xs

pub cases_view : (xs : List case_item.Case) → with_commas (λ x. case_text (case_tree x)) xs ≡ with_commas case_text (map case_tree xs)
cases_view xs = commas_view case_text case_tree xs

pub used_view : (xs : List used_name.UsedName) → with_commas (λ x. used_text (used_name_tree x)) xs ≡ with_commas used_text (map used_name_tree xs)
used_view xs = commas_view used_text used_name_tree xs

pub funcs_view : (xs : List func_item.ResourceFunc) → flat_map (λ x. resource_func_line (resource_func_tree x)) xs ≡ flat_map resource_func_line (map resource_func_tree xs)
funcs_view xs = each_view resource_func_line resource_func_tree xs

pub items_view : (xs : List interface_part.InterfaceItem) → flat_map (λ x. interface_item_lines (interface_item_tree x)) xs ≡ flat_map interface_item_lines (map interface_item_tree xs)
items_view xs = each_view interface_item_lines interface_item_tree xs

pub world_items_view : (xs : List world_part.WorldItem) → flat_map (λ x. world_item_line (world_item_tree x)) xs ≡ flat_map world_item_line (map world_item_tree xs)
world_items_view xs = each_view world_item_line world_item_tree xs

pub file_items_view : (xs : List file_part.FileItem) → flat_map (λ x. file_item_lines (file_item_tree x)) xs ≡ flat_map file_item_lines (map file_item_tree xs)
file_items_view xs = each_view file_item_lines file_item_tree xs

pub ruleset view_laws = (append_assoc, append-nil, typed_view, cases_view, used_view, funcs_view, items_view, world_items_view, file_items_view)

-- ---- types one behind the other

pub separator_none : (n : ℕ) → n ≡ 0 → [] ≡ separator n
separator_none n e = ap separator (sym e)

pub separator_some : (n : ℕ) → (n ≡ 0 → ⊥) → separator n ≡ codes ", "
separator_some zero h = absurd (h refl)
separator_some (suc n) h = refl

pub ruleset separator_laws = (separator_none, separator_some, append-nil)

-- the text of types from the n-th on
abbrev pub numbered : ℕ → List Ty → List ℕ
numbered n [] = []
numbered n (x ∷ xs) = (separator n ++ type_text x) ++ numbered (n + 1) xs

numbered_further : (n : ℕ) (xs : List Ty) → numbered (suc n) xs ≡ further_types_text (types_from xs)
numbered_further n [] = refl
numbered_further n (x ∷ xs) = append_assoc (codes ", ") (type_text x) (numbered (suc n + 1) xs) ∙ ap (λ (ys : List ℕ). codes ", " ++ (type_text x ++ ys)) (subst (λ (k : ℕ). numbered k xs ≡ further_types_text (types_from xs)) (sym (add-one (suc n))) (numbered_further (suc n) xs))

numbered_all : (xs : List Ty) → numbered 0 xs ≡ types_text (types_from xs)
numbered_all [] = refl
numbered_all (x ∷ xs) = ap (λ (ys : List ℕ). type_text x ++ ys) (numbered_further 0 xs)

-- These were added, and what is left makes all.
pub record Numbers (xs : List WitType) (i : ℕ) (start now : List ℕ) : Type 0 where
  pub is : now ++ numbered i (map type_tree (drop i xs)) ≡ start ++ numbered 0 (map type_tree xs)

pub numbers_none : (xs : List WitType) (start : List ℕ) → Numbers xs 0 start start
numbers_none xs start = record { is = refl }

rest_types : (xs : List WitType) (i : ℕ) (x : WitType) → i < length xs → x ≡ get_or xs i x → drop i xs ≡ x ∷ drop (i + 1) xs
rest_types xs i x lt e = drop-cons xs i x lt ∙ (ap (λ (a : WitType). a ∷ drop (suc i) xs) (sym e) ∙ rw (add-one i) refl)

pub numbers_next : (xs : List WitType) (i : ℕ) (x : WitType) (start now apart new : List ℕ) → i < length xs → x ≡ get_or xs i x → apart ≡ now ++ separator i → new ≡ apart ++ type_text (type_tree x) → Numbers xs i start now → Numbers xs (i + 1) start new
numbers_next xs i x start now apart new lt e p q s = record {
  is = ap (λ (z : List ℕ). z ++ numbered (i + 1) (map type_tree (drop (i + 1) xs))) (q ∙ (ap (λ (z : List ℕ). z ++ type_text (type_tree x)) p ∙ append_assoc now (separator i) (type_text (type_tree x))))
      ∙ (append_assoc now (separator i ++ type_text (type_tree x)) (numbered (i + 1) (map type_tree (drop (i + 1) xs)))
      ∙ (sym (ap (λ (ys : List WitType). now ++ numbered i (map type_tree ys)) (rest_types xs i x lt e)) ∙ s.is));
}

pub numbers_all : (xs : List WitType) (i : ℕ) (start now : List ℕ) → length xs ≤ i → Numbers xs i start now → now ≡ start ++ types_text (types_from (map type_tree xs))
numbers_all xs i start now le s =
    sym (append-nil now) ∙ (sym (ap (λ (ys : List WitType). now ++ numbered i (map type_tree ys)) (drop_all i xs le)) ∙ (s.is ∙ ap (λ (z : List ℕ). start ++ z) (numbered_all (map type_tree xs))))

pub ruleset type_laws = (append_assoc, append-nil, numbers_none, numbers_next, numbers_all)

-- ---- resources

pub rest_some : (fs : List func_item.ResourceFunc) → 0 < length fs → resource_rest (map resource_func_tree fs) ≡ codes " {\n" ++ (flat_map resource_func_line (map resource_func_tree fs) ++ codes "  }\n")
rest_some [] lt = absurd (omega (arith, lt))
rest_some (f ∷ fs) lt = refl

pub rest_none : (fs : List func_item.ResourceFunc) → length fs ≡ 0 → resource_rest (map resource_func_tree fs) ≡ codes ";\n"
rest_none [] e = refl
rest_none (f ∷ fs) e = absurd (omega (arith, e))
