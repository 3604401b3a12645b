-- Items one after another, and sections.
use Rattle.std.proofs.Common.{◌≡◌, inl, inr, ℕ, zero, suc, ◌+◌, ◌<◌, ◌≤◌, Bool, true, false, List, [], ◌∷◌, ◌++◌, length, take, drop, Option, Some, None, map, get_or, slice_get, refl, sym, ap, ◌∙◌, arith, subst, add-one, length-append, append-nil}
use Rattle.std.proofs.lemmas.Bool.{leb-true, leb-false}
use Rattle.std.proofs.lemmas.List.{length-map, take_all}
use Rattle.std.proofs.lemmas.Option.{slice_get-get_or, slice_get-map}
use Rattle.std.specs.Bool.{⊤}
use Rattle.std.specs.Option.{option_map, option_map_or}
use Rattle.std.specs.Prelude.{Contains, if◌then◌else◌, nat_le}
use Rattle.cm_binary_model.specs.Trees.{SectionTree, section_tree}
use Rattle.cm_binary_model.specs.declared.section.Section.{Section}
use Rattle.cm_validate_model.specs.declared.fault.ValidReason.{ValidReason}
use Rattle.cm_validate_model.specs.declared.fault.ValidReason.TheVariants as reason
use Rattle.cm_validate_model.specs.ReasonWords.{reason_number}
use Rattle.cm_validate_model.specs.Items.{Item, all_items, items_of}
use Rattle.cm_validate_model.specs.Reasons.{least, lesser}
use Rattle.cm_validate_model.specs.Rules.{broken}
use Rattle.cm_validate_model.specs.Spaces.{Spaces, after_item, after_items, empty_spaces, spaces_of}
use Rattle.cm_validate_model.specs.Valid.{IsFirstFault, IsLeast, IsValid, IsValidFrom}
use Rattle.cm_validate_spaces.specs.IndexSpaces.{Answers, IsAt}
use Rattle.cm_validate_spaces.specs.declared.spaces.IndexSpaces.{IndexSpaces}
use Rattle.cm_validate_spaces.specs.Walks.{IsFaultMet, IsFineBefore, IsMet, Walks, items_at}
use Rattle.cm_validate_model.proofs.ListLemmas.{after_both}
use Rattle.cm_validate_model.proofs.ValidLaws.{valid_more, all_both, least_of_more}
use Rattle.cm_lemmas.proofs.Lists.{long_enough, take_next, item_there as there}
use Rattle.cm_validate_model.proofs.ReasonsLaws.{none_broken}

-- ---- items that break nothing, one after another

abbrev pub AreFine : Spaces → List Item → Type 0
AreFine s [] = ⊤
AreFine s (x ∷ xs) = (broken s x ≡ []) × AreFine (after_item s x) xs

pub fine_more : (s : Spaces) (xs : List Item) (x : Item) → AreFine s xs → broken (after_items s xs) x ≡ [] → AreFine s (xs ++ x ∷ [])
fine_more s [] x a e = (e, tt)
fine_more s (y ∷ ys) x a e = (a.0, fine_more (after_item s y) ys x a.1 e)

pub fine_both : (s : Spaces) (xs ys : List Item) → AreFine s xs → AreFine (after_items s xs) ys → AreFine s (xs ++ ys)
fine_both s [] ys a b = b
fine_both s (x ∷ xs) ys a b = (a.0, fine_both (after_item s x) xs ys a.1 b)

pub fine_valid : (s : Spaces) (xs : List Item) → AreFine s xs → IsValidFrom s xs
fine_valid s [] a = λ front x rest e. absurd (omega (arith, ap length e, length-append front (x ∷ rest)))
fine_valid s (y ∷ ys) a = λ front x rest e. valid_more s y ys a.0 (fine_valid (after_item s y) ys a.1) front x rest e

pub none_valid : IsValidFrom empty_spaces []
none_valid = fine_valid empty_spaces [] tt

-- ---- at a place

pub split_at : {A : Type 0} (xs : List A) (i : ℕ) (x : A) → slice_get xs i ≡ Some x → xs ≡ take i xs ++ x ∷ drop (suc i) xs
split_at [] i x e = absurd cc
split_at (y ∷ ys) zero x e = ap (λ z. z ∷ ys) (some_is e)
  where
    some_is : Some y ≡ Some x → y ≡ x
    some_is f = cc
split_at (y ∷ ys) (suc i) x e = ap (λ zs. y ∷ zs) (split_at ys i x e)

-- ---- the least reason

alone : (q : ValidReason) (rs : List ValidReason) → rs ≡ [] → IsLeast (q ∷ rs) q
alone q rs e = least_of_more q rs q (0, omega arith, refl) (omega arith) (λ y c. absurd (nothing y (subst (λ xs. Contains xs y) e c)))
  where
    nothing : (y : ValidReason) → Contains [] y → ⊥
    nothing y c = omega (arith, c.1)

some_is : (q r : ValidReason) → Some q ≡ Some r → q ≡ r
some_is q r e = cc

chosen : (q : ValidReason) (rs : List ValidReason) (p r : ValidReason) (b : Bool) → nat_le (reason_number q) (reason_number p) ≡ b → IsLeast rs p → (if b then Some q else Some p) ≡ Some r → IsLeast (q ∷ rs) r
chosen q rs p r true h k e =
    let le : reason_number q ≤ reason_number p = leb-true (reason_number q) (reason_number p) h in
    subst (IsLeast (q ∷ rs)) (some_is q r e) (least_of_more q rs q (0, omega arith, refl) (omega arith) (λ v c. omega (arith, le, k.least v c)))
chosen q rs p r false h k e =
    let lt : reason_number p < reason_number q = leb-false (reason_number q) (reason_number p) h in
    subst (IsLeast (q ∷ rs)) (some_is p r e) (least_of_more q rs p (suc k.there.0, omega (arith, k.there.1), k.there.2) (omega (arith, lt)) k.least)

least_behind : (q : ValidReason) (rs : List ValidReason) (r : ValidReason) (o : Option ValidReason) → least rs ≡ o → lesser (Some q) o ≡ Some r → ((p : ValidReason) → least rs ≡ Some p → IsLeast rs p) → IsLeast (q ∷ rs) r
least_behind q rs r None h e k = subst (IsLeast (q ∷ rs)) (some_is q r e) (alone q rs (none_broken rs h))
least_behind q rs r (Some p) h e k = chosen q rs p r (nat_le (reason_number q) (reason_number p)) refl (k p h) e

pub least_is : (rs : List ValidReason) (r : ValidReason) → least rs ≡ Some r → IsLeast rs r
least_is [] r e = absurd cc
least_is (q ∷ rs) r e = least_behind q rs r (least rs) refl e (λ p h. least_is rs p h)

-- ---- the first fault

pub first_fault : (s : Spaces) (items : List Item) (i : ℕ) (x : Item) (r : ValidReason) → slice_get items i ≡ Some x → AreFine s (take i items) → Some r ≡ least (broken (after_items s (take i items)) x) → IsFirstFault s items i r
first_fault s items i x r at fine e = record {
  front = take i items;
  item = x;
  rest = drop (suc i) items;
  split = split_at items i x at;
  place = long_enough items i x at;
  before = fine_valid s (take i items) fine;
  reason = least_is (broken (after_items s (take i items)) x) r (sym e);
}

-- ---- the items of a section

-- the items before a place break nothing, and the spaces are those after them
abbrev pub IsWalked : Spaces → List Item → ℕ → IndexSpaces → Type 0
IsWalked s items n w = AreFine s (take n items) × IsAt w (after_items s (take n items))

pub walk_begins : (s : Spaces) (items : List Item) (w : IndexSpaces) → IsAt w s → IsWalked s items 0 w
walk_begins s items w at = (tt, at)

pub walk_goes_on : (s : Spaces) (items : List Item) (n : ℕ) (old new : IndexSpaces) → n < length items → ((x : Item) → slice_get items n ≡ Some x → Answers x old None new) → IsWalked s items n old → IsWalked s items (n + 1) new
walk_goes_on s items n old new lt answers w =
    let x = there items n lt in
    let a = answers x.0 x.1 in
    let more : take (n + 1) items ≡ take n items ++ x.0 ∷ [] = ap (λ (k : ℕ). take k items) (add-one n) ∙ take_next items n x.0 x.1 in (
      subst (λ (ys : List Item). AreFine s ys) (sym more) (fine_more s (take n items) x.0 w.0 (none_broken (broken (after_items s (take n items)) x.0) (sym (a.fault (after_items s (take n items)) w.1)))),
      subst (λ (u : Spaces). IsAt new u) (sym (after_both s (take n items) (x.0 ∷ [])) ∙ ap (after_items s) (sym more)) (a.after (after_items s (take n items)) w.1),
    )

pub walk_breaks : (s : Spaces) (items : List Item) (n : ℕ) (r : ValidReason) (old new : IndexSpaces) → n < length items → ((x : Item) → slice_get items n ≡ Some x → Answers x old (Some r) new) → IsWalked s items n old → IsMet s items n r
walk_breaks s items n r old new lt answers w =
    let x = there items n lt in
    inr (first_fault s items n x.0 r x.1 w.0 ((answers x.0 x.1).fault (after_items s (take n items)) w.1))

pub walk_lacks : (s : Spaces) (items : List Item) (n : ℕ) (w : IndexSpaces) → IsWalked s items n w → IsMet s items n reason.Memory
walk_lacks s items n w h = inl (refl, fine_valid s (take n items) h.0)

pub walk_ends : (s : Spaces) (items : List Item) (n : ℕ) (new : IndexSpaces) → length items ≤ n → IsWalked s items n new → IsValidFrom s items × IsAt new (after_items s items)
walk_ends s items n new le w =
    let all : take n items ≡ items = take_all n items le in
    (fine_valid s items (subst (λ (ys : List Item). AreFine s ys) all w.0), subst (λ (ys : List Item). IsAt new (after_items s ys)) all w.1)

-- ---- the sections of a component

valid_fine : (s : Spaces) (xs : List Item) → IsValidFrom s xs → AreFine s xs
valid_fine s [] v = tt
valid_fine s (x ∷ xs) v = (v [] x xs refl, valid_fine (after_item s x) xs (λ front y rest e. v (x ∷ front) y rest (ap (λ (ys : List Item). x ∷ ys) e)))

-- the sections before a place break nothing, and the spaces are those after them
abbrev pub AreWalked : List SectionTree → ℕ → IndexSpaces → Type 0
AreWalked sections n w = AreFine empty_spaces (all_items (take n sections)) × IsAt w (after_items empty_spaces (all_items (take n sections)))

items_more : (sections : List SectionTree) (n : ℕ) (t : SectionTree) → slice_get sections n ≡ Some t → all_items (take (n + 1) sections) ≡ all_items (take n sections) ++ items_of t
items_more sections n t e =
    ap (λ (k : ℕ). all_items (take k sections)) (add-one n)
    ∙ (ap all_items (take_next sections n t e)
    ∙ (all_both (take n sections) (t ∷ [])
    ∙ ap (λ (zs : List Item). all_items (take n sections) ++ zs) (append-nil (items_of t))))

pub walks_begin : (sections : List SectionTree) (w : IndexSpaces) → IsAt w empty_spaces → AreWalked sections 0 w
walks_begin sections w at = (tt, at)

pub walks_go_on : (sections : List SectionTree) (n : ℕ) (t : SectionTree) (old new : IndexSpaces) → slice_get sections n ≡ Some t → Walks (items_of t) old None new → AreWalked sections n old → AreWalked sections (n + 1) new
walks_go_on sections n t old new e walks w =
    let front = all_items (take n sections) in
    let step = walks (after_items empty_spaces front) w.1 in
    let more : all_items (take (n + 1) sections) ≡ front ++ items_of t = items_more sections n t e in (
      subst (λ (ys : List Item). AreFine empty_spaces ys) (sym more) (fine_both empty_spaces front (items_of t) w.0 (valid_fine (after_items empty_spaces front) (items_of t) step.0)),
      subst (λ (u : Spaces). IsAt new u) (sym (after_both empty_spaces front (items_of t)) ∙ ap (after_items empty_spaces) (sym more)) step.1,
    )

-- where there was no memory, nothing before is faulty
fine_before : (sections : List SectionTree) (n : ℕ) (t : SectionTree) (i : ℕ) → slice_get sections n ≡ Some t → AreFine empty_spaces (all_items (take n sections))
    → IsValidFrom (after_items empty_spaces (all_items (take n sections))) (take i (items_of t)) → IsFineBefore sections n i
fine_before sections n t i e w v =
    let front = all_items (take n sections) in
    let own : items_at sections n ≡ items_of t = ap (λ (o : Option SectionTree). option_map_or items_of o []) e in
    subst (λ (ys : List Item). IsValidFrom empty_spaces (front ++ take i ys)) (sym own)
    (fine_valid empty_spaces (front ++ take i (items_of t)) (fine_both empty_spaces front (take i (items_of t)) w (valid_fine (after_items empty_spaces front) (take i (items_of t)) v)))

fault_met : (sections : List SectionTree) (n : ℕ) (t : SectionTree) (i : ℕ) (r : ValidReason) → slice_get sections n ≡ Some t → AreFine empty_spaces (all_items (take n sections))
    → IsMet (after_items empty_spaces (all_items (take n sections))) (items_of t) i r → IsFaultMet sections (record { section = n; item = i; reason = r })
fault_met sections n t i r e w (inl m) = inl (m.0, fine_before sections n t i e w m.1)
fault_met sections n t i r e w (inr f) = inr (record {
  before = take n sections;
  faulty = t;
  behind = drop (suc n) sections;
  split = split_at sections n t e;
  place = long_enough sections n t e;
  fine = fine_valid empty_spaces (all_items (take n sections)) w;
  here = f;
})

pub walks_break : (sections : List SectionTree) (n : ℕ) (t : SectionTree) (i : ℕ) (r : ValidReason) (old new : IndexSpaces) → slice_get sections n ≡ Some t → Walks (items_of t) old (Some (i, r)) new → AreWalked sections n old
    → IsFaultMet sections (record { section = n; item = i; reason = r })
walks_break sections n t i r old new e walks w = fault_met sections n t i r e w.0 (walks (after_items empty_spaces (all_items (take n sections))) w.1)

-- the same answer told otherwise
pub walks_as : (items : List Item) (old new : IndexSpaces) (q r : Option (ℕ × ValidReason)) → q ≡ r → Walks items old q new → Walks items old r new
walks_as items old new q r e w = subst (λ (o : Option (ℕ × ValidReason)). Walks items old o new) {y = r} e w

pub walks_end : (sections : List SectionTree) (n : ℕ) (new : IndexSpaces) → length sections ≤ n → AreWalked sections n new → IsValid sections × IsAt new (spaces_of sections)
walks_end sections n new le w =
    let all : take n sections ≡ sections = take_all n sections le in
    (fine_valid empty_spaces (all_items sections) (subst (λ (ys : List SectionTree). AreFine empty_spaces (all_items ys)) all w.0), subst (λ (ys : List SectionTree). IsAt new (after_items empty_spaces (all_items ys))) all w.1)

-- the tree of the section at a place
pub section_there : (xs : List Section) (trees : List SectionTree) (n : ℕ) (x : Section) → map section_tree xs ≡ trees → n < length xs → x ≡ get_or xs n x → slice_get trees n ≡ Some (section_tree x)
section_there xs trees n x e lt at = subst (λ (ts : List SectionTree). slice_get ts n ≡ Some (section_tree x)) e (slice_get-map section_tree xs n ∙ ap (λ (o : Option Section). option_map section_tree o) (slice_get-get_or xs n x lt ∙ ap (λ (y : Section). Some y) (sym at)))

pub sections_over : (xs : List Section) (trees : List SectionTree) (n : ℕ) → map section_tree xs ≡ trees → length xs ≤ n → length trees ≤ n
sections_over xs trees n e le = subst (λ (ts : List SectionTree). length ts ≤ n) e (subst (λ (k : ℕ). k ≤ n) (sym (length-map xs section_tree)) le)

-- the item at a place, made of what stands there
pub item_there : {A B : Type 0} (tree : A → B) (item : B → Item) (xs : List A) (k : ℕ) (v : A) → slice_get xs k ≡ Some v → Some (item (tree v)) ≡ slice_get (map item (map tree xs)) k
item_there {A} {B} tree item xs k v e = sym (slice_get-map item (map tree xs) k ∙ ap (λ (o : Option B). option_map item o) (slice_get-map tree xs k ∙ ap (λ (o : Option A). option_map tree o) e))

pub item_itself : {A : Type 0} (item : A → Item) (xs : List A) (k : ℕ) (v : A) → slice_get xs k ≡ Some v → Some (item v) ≡ slice_get (map item xs) k
item_itself {A} item xs k v e = sym (slice_get-map item xs k ∙ ap (λ (o : Option A). option_map item o) e)

-- what a look-up found, in the list that it looked at
pub found_at : {A : Type 0} (xs ys : List A) (k : ℕ) (v : A) → ys ≡ xs → k < length ys → v ≡ get_or ys k v → slice_get xs k ≡ Some v
found_at {A} xs ys k v e lt at = subst (λ (zs : List A). slice_get zs k ≡ Some v) e (slice_get-get_or ys k v lt ∙ ap (λ (y : A). Some y) (sym at))
