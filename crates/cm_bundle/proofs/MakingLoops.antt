-- The loops that make a bundle.
use Rattle.std.proofs.Common.{◌≡◌, ◌∙◌, ℕ, zero, suc, ◌+◌, ◌<◌, ◌≤◌, List, [], ◌∷◌, ◌++◌, Option, Some, None, map, length, take, get_or, slice_get, Bor, Vec, Global, refl, sym, ap, arith}
use Rattle.std.proofs.Math.Seq.{take-suc}
use Rattle.std.proofs.lemmas.List.{append-nil, map-append}
use Rattle.std.proofs.lemmas.List.Elements.{filter_map-append}
use Rattle.std.specs.List.{AllByRecursion, cons_option, enumerate_from, filter_map}
use Rattle.cm_match_model.specs.Imports.{LinkSet}
use Rattle.cm_lemmas.proofs.Lists.{element_again}
use Rattle.cm_bundle.specs.declared.form.Supply.{Supply}
use Rattle.cm_bundle.specs.declared.form.Part.{Part}
use Rattle.cm_bundle.specs.Trees.{PartTree, part_tree, supply_tree}
use Rattle.cm_bundle.specs.Bundled.{arguments_of, part_of}
use Rattle.cm_bundle.specs.Texts.{HasTexts}

-- ---- what is kept of the first elements

module _ {A : Type 0} where
  pub taken_all : (xs : List A) (n : ℕ) → length xs ≤ n → take n xs ≡ xs
  taken_all [] zero le = refl
  taken_all [] (suc n) le = refl
  taken_all (x ∷ xs) zero le = absurd (omega (arith, le))
  taken_all (x ∷ xs) (suc n) le = ap (λ l. x ∷ l) (taken_all xs n (omega (arith, le)))

  pub take_read : (xs : List A) (i : ℕ) (x : A) → i < length xs → x ≡ get_or xs i x → take (i + 1) xs ≡ take i xs ++ x ∷ []
  take_read xs i x lt e =
      let next : i + 1 ≡ suc i = omega arith in
      ap (λ n. take n xs) next ∙ take-suc xs i x lt ∙ ap (λ y. take i xs ++ y ∷ []) (sym e)

module _ {A B : Type 0} (h : A → Option B) where
  pub kept_more : (xs : List A) (i : ℕ) (x : A) → i < length xs → x ≡ get_or xs i x → filter_map h (take (i + 1) xs) ≡ filter_map h (take i xs) ++ cons_option (h x) []
  kept_more xs i x lt e = ap (filter_map h) (take_read xs i x lt e) ∙ filter_map-append h (take i xs) (x ∷ [])

  pub kept_one : (xs : List A) (i : ℕ) (x : A) (out : List B) (y : B) → i < length xs → x ≡ get_or xs i x → out ≡ filter_map h (take i xs) → Some y ≡ h x → out ++ y ∷ [] ≡ filter_map h (take (i + 1) xs)
  kept_one xs i x out y lt e so one = ap (λ l. l ++ y ∷ []) so ∙ ap (λ o. filter_map h (take i xs) ++ cons_option o []) one ∙ sym (kept_more xs i x lt e)

  pub kept_none : (xs : List A) (i : ℕ) (x : A) (out : List B) → i < length xs → x ≡ get_or xs i x → out ≡ filter_map h (take i xs) → None ≡ h x → out ≡ filter_map h (take (i + 1) xs)
  kept_none xs i x out lt e so none = so ∙ sym (append-nil (filter_map h (take i xs))) ∙ ap (λ o. filter_map h (take i xs) ++ cons_option o []) none ∙ sym (kept_more xs i x lt e)

  -- the same of the element that is read
  pub kept_one_read : (xs : List A) (i : ℕ) (d : A) (out : List B) (y : B) → i < length xs → out ≡ filter_map h (take i xs) → Some y ≡ h (get_or xs i d) → out ++ y ∷ [] ≡ filter_map h (take (i + 1) xs)
  kept_one_read xs i d out y lt so one = kept_one xs i (get_or xs i d) out y lt (element_again xs i d (get_or xs i d) lt) so one

  pub kept_none_read : (xs : List A) (i : ℕ) (d : A) (out : List B) → i < length xs → out ≡ filter_map h (take i xs) → None ≡ h (get_or xs i d) → out ≡ filter_map h (take (i + 1) xs)
  kept_none_read xs i d out lt so none = kept_none xs i (get_or xs i d) out lt (element_again xs i d (get_or xs i d) lt) so none

-- ---- texts

pub texts_more : (xs : List Supply) (x : Supply) → AllByRecursion HasTexts (map supply_tree xs) → HasTexts (supply_tree x) → AllByRecursion HasTexts (map supply_tree (xs ++ x ∷ []))
texts_more [] x all one = (one, tt {0})
texts_more (y ∷ ys) x all one = (all.0, texts_more ys x all.1 one)

-- ---- parts

module _ (set : LinkSet) where
  one_more_from : (n : ℕ) (fs : List (List ℕ)) (f : List ℕ) → map (part_of set) (enumerate_from n (fs ++ f ∷ [])) ≡ map (part_of set) (enumerate_from n fs) ++ part_of set (n + length fs, f) ∷ []
  one_more_from n [] f = ap (λ m. part_of set (m, f) ∷ []) (omega arith)
  one_more_from n (g ∷ fs) f = ap (λ l. part_of set (n, g) ∷ l) (one_more_from (n + 1) fs f ∙ ap (λ m. map (part_of set) (enumerate_from (n + 1) fs) ++ part_of set (m, f) ∷ []) (omega arith))

  pub one_more_part : (first : ℕ) (fs : List (List ℕ)) (i : ℕ) (f : List ℕ) (ps : List PartTree) → i < length fs → f ≡ get_or fs i f → ps ≡ map (part_of set) (enumerate_from first (take i fs)) → ps ++ part_of set (first + i, f) ∷ [] ≡ map (part_of set) (enumerate_from first (take (i + 1) fs))
  one_more_part first fs i f ps lt e so =
      ap (λ l. l ++ part_of set (first + i, f) ∷ []) so
      ∙ ap (λ m. map (part_of set) (enumerate_from first (take i fs)) ++ part_of set (first + m, f) ∷ []) (sym (taken fs i (omega (arith, lt))))
      ∙ sym (one_more_from first (take i fs) f)
      ∙ ap (λ l. map (part_of set) (enumerate_from first l)) (sym (take_read fs i f lt e))
    where
      taken : (fs : List (List ℕ)) (i : ℕ) → i ≤ length fs → length (take i fs) ≡ i
      taken fs zero le = refl
      taken [] (suc i) le = absurd (omega (arith, le))
      taken (f ∷ fs) (suc i) le = ap suc (taken fs i (omega (arith, le)))

  file_read : (fs : List (Bor (List ℕ))) (i : ℕ) (d : Bor (List ℕ)) (x : List ℕ) → i < length fs → (get_or fs i d).now ≡ get_or (map (λ f. f.now) fs) i x
  file_read [] i d x lt = absurd (omega (arith, lt))
  file_read (f ∷ fs) zero d x lt = refl
  file_read (f ∷ fs) (suc i) d x lt = file_read fs i d x (omega (arith, lt))

  files_length : (fs : List (Bor (List ℕ))) → length (map (λ f. f.now) fs) ≡ length fs
  files_length [] = refl
  files_length (f ∷ fs) = ap suc (files_length fs)

  pub parts_pushed : (first : ℕ) (fs : List (Bor (List ℕ))) (i : ℕ) (d : Bor (List ℕ)) (old new : List Part) (given : Vec Supply Global) → i < length fs → new ≡ old ++ (record { file = get_or fs i d; arguments = given }) ∷ [] → map part_tree old ≡ map (part_of set) (enumerate_from first (take i (map (λ f. f.now) fs))) → map supply_tree given.items ≡ arguments_of set (first + i) → map part_tree new ≡ map (part_of set) (enumerate_from first (take (i + 1) (map (λ f. f.now) fs)))
  parts_pushed first fs i d old new given lt pushed so same =
      ap (map part_tree) pushed ∙ map-append part_tree old _
      ∙ ap (λ l. map part_tree old ++ (record { file = (get_or fs i d).now; arguments = l }) ∷ []) same
      ∙ one_more_part first (map (λ f. f.now) fs) i (get_or fs i d).now (map part_tree old) (omega (arith, lt, files_length fs)) (file_read fs i d (get_or fs i d).now lt) so

pub part_texts : (xs : List Part) (x : Part) → AllByRecursion (λ p. AllByRecursion HasTexts p.arguments) (map part_tree xs) → AllByRecursion HasTexts (map supply_tree x.arguments.items) → AllByRecursion (λ p. AllByRecursion HasTexts p.arguments) (map part_tree (xs ++ x ∷ []))
part_texts [] x all one = (one, tt {0})
part_texts (y ∷ ys) x all one = (all.0, part_texts ys x all.1 one)

pub got_read : {A : Type 0} (xs : List A) (i : ℕ) (x : A) → i < length xs → x ≡ get_or xs i x → slice_get xs i ≡ Some x
got_read [] i x lt e = absurd (omega (arith, lt))
got_read (y ∷ ys) zero x lt e = ap Some (sym e)
got_read (y ∷ ys) (suc i) x lt e = got_read ys i x (omega (arith, lt)) e
