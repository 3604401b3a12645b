-- A component is valid, or has a fault, and then one alone.
use Rattle.std.proofs.Common.{◌≡◌, ℕ, zero, suc, ◌+◌, ◌-◌, ◌<◌, ◌≤◌, ◌⊎◌, inl, inr, List, [], ◌∷◌, ◌++◌, length, nat_le, refl, sym, ap, subst, ◌∙◌, arith, slice_index_or}
use Rattle.std.specs.Prelude.{Contains}
use Rattle.std.proofs.lemmas.Bool.{cases_Bool, leb-true, leb-false}
use Rattle.std.proofs.lemmas.List.{append_assoc, length-append}
use Rattle.cm_binary_model.specs.Trees.{SectionTree}
use Rattle.cm_validate_model.specs.declared.fault.ValidReason.{ValidReason}
use Rattle.cm_validate_model.specs.declared.fault.ValidReason.TheVariants as reason
use Rattle.cm_validate_model.specs.ReasonWords.{reason_number}
use Rattle.cm_validate_model.specs.Items.{Item, items_of, all_items}
use Rattle.cm_validate_model.specs.Spaces.{Spaces, empty_spaces, after_item, after_items}
use Rattle.cm_validate_model.specs.Rules.{broken}
use Rattle.cm_validate_model.specs.Valid.{IsValidFrom, IsValid, IsLeast, IsFirstFault, IsFaultOf}
use Rattle.cm_validate_model.proofs.ListLemmas.{after_both}
use Rattle.cm_lemmas.proofs.Lists.{nil_right}

-- ---- lists

abbrev head_or : {A : Type 0} → A → List A → A
head_or x [] = x
head_or x (y ∷ ys) = y

abbrev tail : {A : Type 0} → List A → List A
tail [] = []
tail (y ∷ ys) = ys

-- two places of one list: one is before the other, or they are the same
Apart : {A : Type 0} → List A → List A → List A → List A → A → A → Type 0
Apart {A} a b c d x y = ((m : List A) × (b ≡ a ++ x ∷ m)) ⊎ (((m : List A) × (a ≡ b ++ y ∷ m)) ⊎ ((a ≡ b) × (x ≡ y)))

-- the same with an element more in front of each
further : {A : Type 0} (a b c d : List A) (x y z w : A) → z ≡ w → Apart a b c d x y → Apart (z ∷ a) (w ∷ b) c d x y
unfolding Apart
further a b c d x y z w h (inl k) = inl (k.0, ap (λ l. w ∷ l) k.1 ∙ ap (λ v. v ∷ (a ++ x ∷ k.0)) (sym h))
further a b c d x y z w h (inr (inl k)) = inr (inl (k.0, ap (λ l. z ∷ l) k.1 ∙ ap (λ v. v ∷ (b ++ y ∷ k.0)) h))
further a b c d x y z w h (inr (inr k)) = inr (inr (ap (λ l. z ∷ l) k.0 ∙ ap (λ v. v ∷ b) h, k.1))

places : {A : Type 0} (a b c d : List A) (x y : A) → a ++ x ∷ c ≡ b ++ y ∷ d → Apart a b c d x y
unfolding Apart
places [] [] c d x y e = inr (inr (refl, ap (head_or x) e))
places [] (z ∷ b) c d x y e = inl (b, ap (λ v. v ∷ b) (sym (ap (head_or x) e)))
places (z ∷ a) [] c d x y e = inr (inl (a, ap (λ v. v ∷ a) (ap (head_or z) e)))
places (z ∷ a) (w ∷ b) c d x y e = further a b c d x y z w (ap (head_or z) e) (places a b c d x y (ap tail e))

-- ---- the least of some reasons

nothing_there : (r : ValidReason) → Contains [] r → ⊥
nothing_there r c = omega (arith, c.1)

pub at_or_behind : (q : ValidReason) (rs : List ValidReason) (r : ValidReason) → reason_number r ≤ reason_number q → ((y : ValidReason) → Contains rs y → reason_number r ≤ reason_number y)
    → (y : ValidReason) (k : ℕ) → k < length (q ∷ rs) → slice_index_or (q ∷ rs) k y ≡ y → reason_number r ≤ reason_number y
at_or_behind q rs r h b y zero lt e = subst (λ v. reason_number r ≤ reason_number v) e h
at_or_behind q rs r h b y (suc k) lt e = b y (k, omega (arith, lt), e)

pub least_of_more : (q : ValidReason) (rs : List ValidReason) (r : ValidReason) → Contains (q ∷ rs) r → reason_number r ≤ reason_number q
    → ((y : ValidReason) → Contains rs y → reason_number r ≤ reason_number y) → IsLeast (q ∷ rs) r
least_of_more q rs r there h b = record { there = there; least = λ y c. at_or_behind q rs r h b y c.0 c.1 c.2 }

lesser_of : (q : ValidReason) (rs : List ValidReason) → (r : ValidReason) × IsLeast rs r → (r : ValidReason) × IsLeast (q ∷ rs) r
lesser_of q rs k = elim (cases_Bool (nat_le (reason_number q) (reason_number k.0))) [
  | inl y ↦
      let le : reason_number q ≤ reason_number k.0 = leb-true (reason_number q) (reason_number k.0) y in
      (q, least_of_more q rs q (0, omega arith, refl) (omega arith) (λ v c. omega (arith, le, k.1.least v c)))
  | inr n ↦
      let lt : reason_number k.0 < reason_number q = leb-false (reason_number q) (reason_number k.0) n in
      (k.0, least_of_more q rs k.0 (suc k.1.there.0, omega (arith, k.1.there.1), behind q rs k.0 k.1.there.0 k.1.there.2) (omega (arith, lt)) k.1.least)
]
  where
    behind : (q : ValidReason) (rs : List ValidReason) (r : ValidReason) (n : ℕ) → slice_index_or rs n r ≡ r → slice_index_or (q ∷ rs) (suc n) r ≡ r
    behind q rs r n e = e

least_some : (q : ValidReason) (rs : List ValidReason) → (r : ValidReason) × IsLeast (q ∷ rs) r
least_some q [] = (q, least_of_more q [] q (0, omega arith, refl) (omega arith) (λ y c. absurd (nothing_there y c)))
least_some q (p ∷ rs) = lesser_of q (p ∷ rs) (least_some p rs)

-- (no reason has the number 18)
in_order : List ValidReason
in_order =
    reason.NoSuchIndex ∷ reason.WrongSort ∷ reason.EmptyType ∷ reason.TooManyFlags ∷ reason.BorrowInResult ∷ reason.DuplicateName ∷ reason.NeedsMemory
    ∷ reason.NeedsRealloc ∷ reason.OptionTwice ∷ reason.OptionNotAllowed ∷ reason.NotGuestFunction ∷ reason.SecondMemory ∷ reason.NotOwnResource
    ∷ reason.BadAnnotatedName ∷ reason.Memory ∷ reason.NotImported ∷ reason.TooLarge ∷ reason.TooLarge ∷ reason.StoresLatin1 ∷ []

numbered : ℕ → ValidReason
unfolding in_order
numbered n = slice_index_or in_order (n - 1) reason.NoSuchIndex

told : (r : ValidReason) → numbered (reason_number r) ≡ r
unfolding in_order numbered
told reason.NoSuchIndex = refl
told reason.WrongSort = refl
told reason.EmptyType = refl
told reason.TooManyFlags = refl
told reason.BorrowInResult = refl
told reason.DuplicateName = refl
told reason.NeedsMemory = refl
told reason.NeedsRealloc = refl
told reason.OptionTwice = refl
told reason.OptionNotAllowed = refl
told reason.NotGuestFunction = refl
told reason.SecondMemory = refl
told reason.NotOwnResource = refl
told reason.BadAnnotatedName = refl
told reason.Memory = refl
told reason.NotImported = refl
told reason.TooLarge = refl
told reason.StoresLatin1 = refl

one_least : (rs : List ValidReason) (q r : ValidReason) → IsLeast rs q → IsLeast rs r → q ≡ r
one_least rs q r f g =
    let same : reason_number q ≡ reason_number r = omega (arith, f.least r g.there, g.least q f.there) in
    sym (told q) ∙ ap numbered same ∙ told r

-- ---- items

valid_front : (s : Spaces) (xs ys : List Item) → IsValidFrom s (xs ++ ys) → IsValidFrom s xs
valid_front s xs ys v = λ front x rest e. v front x (rest ++ ys) (ap (λ l. l ++ ys) e ∙ append_assoc front (x ∷ rest) ys)

valid_behind : (s : Spaces) (xs ys : List Item) → IsValidFrom s (xs ++ ys) → IsValidFrom (after_items s xs) ys
valid_behind s xs ys v = λ front x rest e. ap (λ t. broken t x) (sym (after_both s xs front)) ∙ v (xs ++ front) x rest (ap (λ l. xs ++ l) e ∙ sym (append_assoc xs front (x ∷ rest)))

pub valid_more : (s : Spaces) (x : Item) (xs : List Item) → broken s x ≡ [] → IsValidFrom (after_item s x) xs
    → (front : List Item) (y : Item) (rest : List Item) → x ∷ xs ≡ front ++ y ∷ rest → broken (after_items s front) y ≡ []
valid_more s x xs h v [] y rest e = ap (broken s) (sym (ap (head_or x) e)) ∙ h
valid_more s x xs h v (z ∷ front) y rest e = ap (λ w. broken (after_items (after_item s w) front) y) (sym (ap (head_or x) e)) ∙ v front y rest (ap tail e)

valid_both : (s : Spaces) (xs ys : List Item) → IsValidFrom s xs → IsValidFrom (after_items s xs) ys → IsValidFrom s (xs ++ ys)
valid_both s [] ys v w = w
valid_both s (x ∷ xs) ys v w = valid_more s x (xs ++ ys) (v [] x xs refl) (valid_both (after_item s x) xs ys (λ front y rest e. v (x ∷ front) y rest (ap (λ l. x ∷ l) e)) w)

none_valid : (s : Spaces) → IsValidFrom s []
none_valid s = λ front x rest e. absurd (omega (arith, ap length e, length-append front (x ∷ rest)))

fault_or_valid : (s : Spaces) (items : List Item) (n : ℕ) (r : ValidReason) → IsValidFrom s items → IsFirstFault s items n r → ⊥
fault_or_valid s items n r v f = nothing_there r (subst (λ rs. Contains rs r) (v f.front f.item f.rest f.split) f.reason.there)

one_item : (s : Spaces) (items : List Item) (n m : ℕ) (q r : ValidReason) → IsFirstFault s items n q → IsFirstFault s items m r → (n ≡ m) × (q ≡ r)
unfolding Apart
one_item s items n m q r f g = elim (places f.front g.front f.rest g.rest f.item g.item (sym f.split ∙ g.split)) [
  | inl k ↦ absurd (fault_or_valid s g.front n q g.before (record { front = f.front; item = f.item; rest = k.0; split = k.1; place = f.place; before = f.before; reason = f.reason }))
  | inr (inl k) ↦ absurd (fault_or_valid s f.front m r f.before (record { front = g.front; item = g.item; rest = k.0; split = k.1; place = g.place; before = g.before; reason = g.reason }))
  | inr (inr k) ↦ (
    sym f.place ∙ ap length k.0 ∙ g.place,
    one_least (broken (after_items s g.front) g.item) q r (subst (λ t. IsLeast t q) (ap (λ l. broken (after_items s l) f.item) k.0 ∙ ap (broken (after_items s g.front)) k.1) f.reason) g.reason,
  )
]

-- the first fault of items, or that they are valid
Answer : Spaces → List Item → Type 0
Answer s items = IsValidFrom s items ⊎ ((n : ℕ) × (r : ValidReason) × IsFirstFault s items n r)

answer_more : (s : Spaces) (x : Item) (xs : List Item) (rs : List ValidReason) → broken s x ≡ rs → Answer (after_item s x) xs → Answer s (x ∷ xs)
unfolding Answer
answer_more s x xs [] h (inl v) = inl (valid_more s x xs h v)
answer_more s x xs [] h (inr k) =
    inr (
      k.0 + 1,
      k.1,
      record {
        front = x ∷ k.2.front;
        item = k.2.item;
        rest = k.2.rest;
        split = ap (λ l. x ∷ l) k.2.split;
        place = omega (arith, k.2.place);
        before = valid_more s x k.2.front h k.2.before;
        reason = k.2.reason;
      },
    )
answer_more s x xs (q ∷ rs) h k =
    let l = least_some q rs in
    inr (0, l.0, record { front = []; item = x; rest = xs; split = refl; place = refl; before = none_valid s; reason = subst (λ t. IsLeast t l.0) (sym h) l.1 })

answer : (s : Spaces) (items : List Item) → Answer s items
unfolding Answer
answer s [] = inl (none_valid s)
answer s (x ∷ xs) = answer_more s x xs (broken s x) refl (answer (after_item s x) xs)

-- ---- sections

pub all_both : (xs ys : List SectionTree) → all_items (xs ++ ys) ≡ all_items xs ++ all_items ys
all_both [] ys = refl
all_both (x ∷ xs) ys = ap (λ l. items_of x ++ l) (all_both xs ys) ∙ sym (append_assoc (items_of x) (all_items xs) (all_items ys))

pub never_both : (sections : List SectionTree) (s i : ℕ) (r : ValidReason) → IsValid sections → IsFaultOf sections s i r → ⊥
never_both sections s i r v f =
    let behind = all_items f.behind in
    let split : all_items sections ≡ all_items f.before ++ (items_of f.faulty ++ behind) = ap all_items f.split ∙ all_both f.before (f.faulty ∷ f.behind) in
    let from : IsValidFrom (after_items empty_spaces (all_items f.before)) (items_of f.faulty ++ behind) =
    valid_behind empty_spaces (all_items f.before) (items_of f.faulty ++ behind) (subst (IsValidFrom empty_spaces) split v) in
    fault_or_valid (after_items empty_spaces (all_items f.before)) (items_of f.faulty) i r (valid_front (after_items empty_spaces (all_items f.before)) (items_of f.faulty) behind from) f.here

moved_here : (a b : List SectionTree) (x y : SectionTree) (i : ℕ) (r : ValidReason) → a ≡ b → x ≡ y
    → IsFirstFault (after_items empty_spaces (all_items a)) (items_of x) i r → IsFirstFault (after_items empty_spaces (all_items b)) (items_of y) i r
moved_here a b x y i r e h f = subst (λ z. IsFirstFault (after_items empty_spaces (all_items b)) (items_of z) i r) h (subst (λ l. IsFirstFault (after_items empty_spaces (all_items l)) (items_of x) i r) e f)

pub one_fault : (sections : List SectionTree) (s t i j : ℕ) (q r : ValidReason) → IsFaultOf sections s i q → IsFaultOf sections t j r → (s ≡ t) × (i ≡ j) × (q ≡ r)
unfolding Apart
one_fault sections s t i j q r f g = elim (places f.before g.before f.behind g.behind f.faulty g.faulty (sym f.split ∙ g.split)) [
  | inl k ↦ absurd (never_both g.before s i q g.fine (record { before = f.before; faulty = f.faulty; behind = k.0; split = k.1; place = f.place; fine = f.fine; here = f.here }))
  | inr (inl k) ↦ absurd (never_both f.before t j r f.fine (record { before = g.before; faulty = g.faulty; behind = k.0; split = k.1; place = g.place; fine = g.fine; here = g.here }))
  | inr (inr k) ↦
      let m = one_item (after_items empty_spaces (all_items g.before)) (items_of g.faulty) i j q r (moved_here f.before g.before f.faulty g.faulty i q k.0 k.1 f.here) g.here in
      (sym f.place ∙ ap length k.0 ∙ g.place, m.0, m.1)
]

Either : List SectionTree → Type 0
Either sections = IsValid sections ⊎ ((s : ℕ) × (i : ℕ) × (r : ValidReason) × IsFaultOf sections s i r)

grown_valid : (done : List SectionTree) (x : SectionTree) → IsValid done → IsValidFrom (after_items empty_spaces (all_items done)) (items_of x) → IsValid (done ++ x ∷ [])
grown_valid done x v w =
    let same : all_items (done ++ x ∷ []) ≡ all_items done ++ items_of x = all_both done (x ∷ []) ∙ ap (λ l. all_items done ++ l) (nil_right (items_of x)) in
    subst (IsValidFrom empty_spaces) (sym same) (valid_both empty_spaces (all_items done) (items_of x) v w)

from_done : (done rest : List SectionTree) → IsValid done → Either (done ++ rest)
unfolding Answer Either
from_done done [] v = inl (subst IsValid (sym (nil_right done)) v)
from_done done (x ∷ rest) v = elim (answer (after_items empty_spaces (all_items done)) (items_of x)) [
  | inl w ↦ subst (λ l. IsValid l ⊎ ((s : ℕ) × (i : ℕ) × (r : ValidReason) × IsFaultOf l s i r)) (append_assoc done (x ∷ []) rest) (from_done (done ++ x ∷ []) rest (grown_valid done x v w))
  | inr k ↦ inr (length done, k.0, k.1, record { before = done; faulty = x; behind = rest; split = refl; place = refl; fine = v; here = k.2 })
]

pub either : (sections : List SectionTree) → IsValid sections ⊎ ((s : ℕ) × (i : ℕ) × (r : ValidReason) × IsFaultOf sections s i r)
unfolding Either
either sections = from_done [] sections (none_valid empty_spaces)
