-- What the choices of a bundle choose, and what imports see by them.
use Rattle.std.proofs.Common.{◌≡◌, ◌∙◌, ◌+◌, ◌<◌, ◌≤◌, ◌⊎◌, ◌==◌, ◌&&◌, ◌++◌, ◌∷◌, [], ℕ, zero, suc, Bool, true, false, cond, List, Option, None, Some, ap, append_assoc, arith, drop, inl, inr, length, map, option_and_then, refl, slice_get, subst, sym, take, is_some, is_none}
use Rattle.std.proofs.lemmas.Bool.{and_from, cases_lt}
use Rattle.std.proofs.lemmas.List.{length-append, take-append-le}
use Rattle.std.proofs.lemmas.Option.{slice_get_within}
use Rattle.std.specs.List.{AllByRecursion, find}
use Rattle.std.specs.Option.{option_map}
use Rattle.cm_lemmas.proofs.Lists.{get_left, item_there}
use Rattle.cm_lemmas.proofs.Numbers.{eq_of, eq_self}
use Rattle.cm_lemmas.proofs.Options.{some_is, stepped}
use Rattle.cm_bundle_links.specs.Links.{AreLinked, AreLinks, IsLink, argument_in}
use Rattle.cm_bundle_links.specs.cm_bundle.Trees.{BundleTree, GroupTree, PartTree, SupplyTree}
use Rattle.cm_match_model.specs.Fitting.{NamedExport}
use Rattle.cm_match_model.specs.Imports.{LinkSet, import_in}
use Rattle.cm_match_model.specs.Sights.{sees_chosen, sees_component}
use Rattle.cm_match_model.specs.declared.component.Link.{Link}
use Rattle.cm_match_serving.specs.Candidates.{each_from}
use Rattle.cm_types.specs.Signatures.{NamedExtern}
use Rattle.cm_validate_model.specs.Spaces.{Spaces}
use Rattle.huxarte_c_calls.specs.Spans.{AreWithin, part_of, parts_of}
use Rattle.huxarte_c_calls.specs.declared.spans.HuxSpan.{HuxSpan}
use Rattle.huxarte_c_components.specs.declared.choosing.HuxChoice.{HuxChoice}
use Rattle.huxarte_c_components.specs.Choosing.{ArePlaced, IsSetBy, IsSight, chosen_by, chosen_link, has_place, is_for}
use Rattle.huxarte_c_components.specs.Unbundling.{SeesNamed, bytes_of, choice_of, choices_from, spans_from}

-- ---- what is found in lists that are joined

found_front : {A : Type 0} (p : A → Bool) (xs ys : List A) (x : A) → find p xs ≡ Some x → find p (xs ++ ys) ≡ Some x
found_front p [] ys x is = absurd (cc)
found_front p (y ∷ xs) ys x is = front (p y) y x (find p xs) (find p (xs ++ ys)) is (found_front p xs ys x)
  where
    front : {A : Type 0} (b : Bool) (y x : A) (f g : Option A) → cond b (Some y) f ≡ Some x → (f ≡ Some x → g ≡ Some x) → cond b (Some y) g ≡ Some x
    front true y x f g is k = is
    front false y x f g is k = k is

found_behind : {A : Type 0} (p : A → Bool) (xs ys : List A) → find p xs ≡ None → find p (xs ++ ys) ≡ find p ys
found_behind p [] ys none = refl
found_behind p (y ∷ xs) ys none = behind (p y) y (find p xs) (find p (xs ++ ys)) (find p ys) none (found_behind p xs ys)
  where
    behind : {A : Type 0} (b : Bool) (y : A) (f g h : Option A) → cond b (Some y) f ≡ None → (f ≡ None → g ≡ h) → cond b (Some y) g ≡ h
    behind true y f g h none k = absurd (cc)
    behind false y f g h none k = k none

-- ---- the choice of an import

not_for : (importer number j i : ℕ) (l : Link) → (j ≡ importer → i ≡ number → ⊥) → is_for importer number (choice_of j i l) ≡ false
not_for importer number j i l ne = by (j == importer) (i == number) refl refl
  where
    by : (a b : Bool) → (j == importer) ≡ a → (i == number) ≡ b → (a && b) ≡ false
    by true true e f = absurd (ne (eq_of j importer e) (eq_of i number f))
    by true false e f = refl
    by false b e f = refl

for_it : (j i : ℕ) (l : Link) → is_for j i (choice_of j i l) ≡ true
for_it j i l = and_from (j == j) (i == i) (eq_self j) (eq_self i)

-- a row of another file chooses nothing for the import, nor does one whose imports stand behind it
row_other : (importer number j i : ℕ) (row : List Link) → (j ≡ importer → ⊥) → find (is_for importer number) (each_from (choice_of j) i row) ≡ None
row_other importer number j i [] ne = refl
row_other importer number j i (l ∷ row) ne =
    ap (λ b. cond b (Some (choice_of j i l)) (find (is_for importer number) (each_from (choice_of j) (i + 1) row))) (not_for importer number j i l (λ e f. ne e))
    ∙ row_other importer number j (i + 1) row ne

-- the row of its file chooses the link in its place
row_hit : (j i m n : ℕ) (row : List Link) (l : Link) → slice_get row m ≡ Some l → n ≡ i + m → find (is_for j n) (each_from (choice_of j) i row) ≡ Some (choice_of j n l)
row_hit j i m n [] l there is = absurd (cc)
row_hit j i zero n (k ∷ row) l there is =
    let same : i ≡ n = omega (arith, is) in
    let hit : is_for j n (choice_of j i k) ≡ true = ap (λ x. is_for j n (choice_of j x k)) same ∙ for_it j n k in
    ap (λ b. cond b (Some (choice_of j i k)) (find (is_for j n) (each_from (choice_of j) (i + 1) row))) hit
    ∙ ap (λ x. Some (choice_of j x k)) same ∙ ap (λ x. Some (choice_of j n x)) (some_is k l there)
row_hit j i (suc m) n (k ∷ row) l there is =
    let behind : n ≡ (i + 1) + m = omega (arith, is) in
    let less : i ≡ n → ⊥ = λ e. omega (arith, e, is) in
    ap (λ b. cond b (Some (choice_of j i k)) (find (is_for j n) (each_from (choice_of j) (i + 1) row))) (not_for j n j i k (λ e f. less f))
    ∙ row_hit j (i + 1) m n row l there behind

choices_hit : (j m importer number : ℕ) (rows : List (List Link)) (row : List Link) (l : Link) → slice_get rows m ≡ Some row → slice_get row number ≡ Some l → importer ≡ j + m
    → find (is_for importer number) (choices_from j rows) ≡ Some (choice_of importer number l)
choices_hit j m importer number [] row l at_row at_link is = absurd (cc)
choices_hit j zero importer number (r ∷ rows) row l at_row at_link is =
    let same : importer ≡ j = omega (arith, is) in
    let first : number ≡ 0 + number = omega arith in
    found_front (is_for importer number) (each_from (choice_of j) 0 r) (choices_from (j + 1) rows) (choice_of importer number l)
    (ap (λ x. find (is_for importer number) (each_from (choice_of x) 0 r)) (sym same)
    ∙ row_hit importer 0 number number r l (ap (λ x. slice_get x number) (some_is r row at_row) ∙ at_link) first)
choices_hit j (suc m) importer number (r ∷ rows) row l at_row at_link is =
    let behind : importer ≡ (j + 1) + m = omega (arith, is) in
    found_behind (is_for importer number) (each_from (choice_of j) 0 r) (choices_from (j + 1) rows) (row_other importer number j 0 r (λ e. omega (arith, e, is)))
    ∙ choices_hit (j + 1) m importer number rows row l at_row at_link behind

-- ---- what an import is linked to

-- what stands in a place of a part that is linked
pub record IsLinkedAt (front : List GroupTree) (before : List Spaces) (item : NamedExtern) (arguments : List SupplyTree) (row : List Link) (n : ℕ) : Type 0 where
  pub argument : SupplyTree
  pub given : slice_get arguments n ≡ Some argument
  pub link : Link
  pub linked : slice_get row n ≡ Some link
  pub is : IsLink front before item argument link

linked_at : (front : List GroupTree) (before : List Spaces) (items : List NamedExtern) (arguments : List SupplyTree) (row : List Link) (n : ℕ) (item : NamedExtern)
    → AreLinked front before items arguments row → slice_get items n ≡ Some item → IsLinkedAt front before item arguments row n
linked_at front before [] arguments row n item are there = absurd (cc)
linked_at front before (i ∷ is) [] row n item are there = absurd are
linked_at front before (i ∷ is) (x ∷ xs) [] n item are there = absurd are
linked_at front before (i ∷ is) (x ∷ xs) (l ∷ ls) zero item are there = record {
  argument = x;
  given = refl;
  link = l;
  linked = refl;
  is = subst (λ (y : NamedExtern). IsLink front before y x l) (some_is i item there) are.0;
}
linked_at front before (i ∷ is) (x ∷ xs) (l ∷ ls) (suc n) item are there =
    let h = linked_at front before is xs ls n item are.1 there in
    record { argument = h.argument; given = h.given; link = h.link; linked = h.linked; is = h.is }

-- the same of a part of a bundle
pub record IsLinkedIn (b : BundleTree) (set : List Spaces) (rows : List (List Link)) (importer number : ℕ) (item : NamedExtern) : Type 0 where
  pub argument : SupplyTree
  pub given : argument_in b importer number ≡ Some argument
  pub row : List Link
  pub row_there : slice_get rows importer ≡ Some row
  pub link : Link
  pub linked : slice_get row number ≡ Some link
  pub is : IsLink b.front (take importer set) item argument link

linked_in : (b : BundleTree) (set : List Spaces) (rows : List (List Link)) (importer number : ℕ) (item : NamedExtern) → AreLinks b set rows
    → import_in set importer number ≡ Some item → IsLinkedIn b set rows importer number item
linked_in b set rows importer number item are there =
    let s = stepped (slice_get set importer) (λ (s : Spaces). slice_get s.imports number) item there in
    let inside : importer < length set = slice_get_within set importer s.0 s.1 in
    let p = item_there b.parts importer (omega (arith, inside, are.parts.count)) in
    let r = item_there rows importer (omega (arith, inside, are.rows_are.count)) in
    let h = linked_at b.front (take importer set) s.0.imports p.0.arguments r.0 number item (are.rows_are.linked importer p.0 s.0 r.0 p.1 s.1 r.1) s.2 in
    record {
      argument = h.argument;
      given = ap (option_and_then (λ (q : PartTree). slice_get q.arguments number)) p.1 ∙ h.given;
      row = r.0;
      row_there = r.1;
      link = h.link;
      linked = h.linked;
      is = h.is;
    }

-- ---- what it sees

link_again : (importer number : ℕ) (l : Link) → chosen_link (choice_of importer number l) ≡ l
link_again importer number l = refl

sees_so : (set : List Spaces) (choices : List HuxChoice) (linked : LinkSet) (importer number : ℕ) (item : NamedExtern) (l : Link) (e : NamedExport)
    → find (is_for importer number) choices ≡ Some (choice_of importer number l) → IsSight set [] choices linked.sees → import_in set importer number ≡ Some item
    → linked.sees importer number e ≡ sees_chosen (Some l) (sees_component [] importer e.component) e
sees_so set [] linked importer number item l e chosen sight there = absurd (cc)
sees_so set (x ∷ xs) linked importer number item l e chosen sight there =
    sight importer number item there e
    ∙ ap (λ o. sees_chosen (option_map chosen_link o) (sees_component [] importer e.component) e) chosen

pub seen : (b : BundleTree) (set : List Spaces) (rows : List (List Link)) (linked : LinkSet) (importer number : ℕ) (item : NamedExtern) → AreLinks b set rows
    → IsSetBy set [] (choices_from 0 rows) linked → import_in set importer number ≡ Some item → SeesNamed b set linked.sees importer number item
seen b set rows linked importer number item are by there =
    let h = linked_in b set rows importer number item are there in
    let first : importer ≡ 0 + importer = omega arith in
    record {
      argument = h.argument;
      given = h.given;
      link = h.link;
      is = h.is;
      only = λ e. sees_so set (choices_from 0 rows) linked importer number item h.link e
          (choices_hit 0 importer importer number rows h.row h.link h.row_there h.linked first) by.sight there;
    }

-- ---- each choice has its place

-- what stands at a place of a row's choices, and that nothing before is for the same import
pub record IsChoiceAt (j i : ℕ) (row : List Link) (before : List HuxChoice) (x : HuxChoice) : Type 0 where
  pub place : ℕ
  pub link : Link
  pub there : slice_get row place ≡ Some link
  pub choice : x ≡ choice_of j (i + place) link
  pub none : find (is_for j (i + place)) before ≡ None

row_place : (j i m : ℕ) (row : List Link) (x : HuxChoice) → slice_get (each_from (choice_of j) i row) m ≡ Some x
    → IsChoiceAt j i row (take m (each_from (choice_of j) i row)) x
row_place j i m [] x there = absurd (cc)
row_place j i zero (l ∷ row) x there =
    let same : i ≡ i + 0 = omega arith in
    record {
      place = 0;
      link = l;
      there = refl;
      choice = sym (some_is (choice_of j i l) x there) ∙ ap (λ k. choice_of j k l) same;
      none = refl;
    }
row_place j i (suc m) (l ∷ row) x there =
    let h = row_place j (i + 1) m row x there in
    let same : (i + 1) + h.place ≡ i + suc h.place = omega arith in
    let less : i ≡ i + suc h.place → ⊥ = λ e. omega (arith, e) in
    record {
      place = suc h.place;
      link = h.link;
      there = h.there;
      choice = h.choice ∙ ap (λ k. choice_of j k h.link) same;
      none = ap (λ b. cond b (Some (choice_of j i l)) (find (is_for j (i + suc h.place)) (take m (each_from (choice_of j) (i + 1) row)))) (not_for j (i + suc h.place) j i l (λ e f. less f))
          ∙ ap (λ k. find (is_for j k) (take m (each_from (choice_of j) (i + 1) row))) (sym same) ∙ h.none;
    }

-- the same of the choices of rows
pub record IsChoiceIn (j : ℕ) (rows : List (List Link)) (before : List HuxChoice) (x : HuxChoice) : Type 0 where
  pub file : ℕ
  pub row : List Link
  pub row_there : slice_get rows file ≡ Some row
  pub place : ℕ
  pub link : Link
  pub there : slice_get row place ≡ Some link
  pub choice : x ≡ choice_of (j + file) place link
  pub none : find (is_for (j + file) place) before ≡ None

take_behind : {A : Type 0} (xs ys : List A) (n p : ℕ) → n ≡ length xs + p → take n (xs ++ ys) ≡ xs ++ take p ys
take_behind [] ys n p is =
    let same : n ≡ p = omega (arith, is) in
    ap (λ k. take k ys) same
take_behind (x ∷ xs) ys zero p is = absurd (omega (arith, is))
take_behind (x ∷ xs) ys (suc n) p is = ap (λ zs. x ∷ zs) (take_behind xs ys n p (omega (arith, is)))

get_behind : {A : Type 0} (xs ys : List A) (n p : ℕ) → n ≡ length xs + p → slice_get (xs ++ ys) n ≡ slice_get ys p
get_behind [] ys n p is =
    let same : n ≡ p = omega (arith, is) in
    ap (slice_get ys) same
get_behind (x ∷ xs) ys zero p is = absurd (omega (arith, is))
get_behind (x ∷ xs) ys (suc n) p is = get_behind xs ys n p (omega (arith, is))

difference : (a n : ℕ) → a ≤ n → (p : ℕ) × (n ≡ a + p)
difference zero n le = (n, omega arith)
difference (suc a) zero le = absurd (omega (arith, le))
difference (suc a) (suc n) le =
    let h = difference a n (omega (arith, le)) in
    (h.0, omega (arith, h.1))

-- the choice at a place is of the first row, or of the rows behind it
choice_step : (j m : ℕ) (row : List Link) (rows : List (List Link)) (x : HuxChoice)
    → ((d : ℕ) → slice_get (choices_from (j + 1) rows) d ≡ Some x → IsChoiceIn (j + 1) rows (take d (choices_from (j + 1) rows)) x)
    → slice_get (choices_from j (row ∷ rows)) m ≡ Some x → (m < length (each_from (choice_of j) 0 row)) ⊎ (length (each_from (choice_of j) 0 row) ≤ m)
    → IsChoiceIn j (row ∷ rows) (take m (choices_from j (row ∷ rows))) x
choice_step j m row rows x again there (inl lt) =
    let h = row_place j 0 m row x (sym (get_left (each_from (choice_of j) 0 row) (choices_from (j + 1) rows) m lt) ∙ there) in
    let file : j ≡ j + 0 = omega arith in
    let place : 0 + h.place ≡ h.place = omega arith in
    let le : m ≤ length (each_from (choice_of j) 0 row) = omega (arith, lt) in
    record {
      file = 0;
      row = row;
      row_there = refl;
      place = h.place;
      link = h.link;
      there = h.there;
      choice = h.choice ∙ ap (λ k. choice_of j k h.link) place ∙ ap (λ k. choice_of k h.place h.link) file;
      none = ap (find (is_for (j + 0) h.place)) (take-append-le m (each_from (choice_of j) 0 row) (choices_from (j + 1) rows) le)
          ∙ ap (λ k. find (is_for k h.place) (take m (each_from (choice_of j) 0 row))) (sym file)
          ∙ ap (λ k. find (is_for j k) (take m (each_from (choice_of j) 0 row))) (sym place) ∙ h.none;
    }
choice_step j m row rows x again there (inr le) =
    let d = difference (length (each_from (choice_of j) 0 row)) m le in
    let h = again d.0 (sym (get_behind (each_from (choice_of j) 0 row) (choices_from (j + 1) rows) m d.0 d.1) ∙ there) in
    let file : (j + 1) + h.file ≡ j + suc h.file = omega arith in
    record {
      file = suc h.file;
      row = h.row;
      row_there = h.row_there;
      place = h.place;
      link = h.link;
      there = h.there;
      choice = h.choice ∙ ap (λ k. choice_of k h.place h.link) file;
      none = ap (find (is_for (j + suc h.file) h.place)) (take_behind (each_from (choice_of j) 0 row) (choices_from (j + 1) rows) m d.0 d.1)
          ∙ found_behind (is_for (j + suc h.file) h.place) (each_from (choice_of j) 0 row) (take d.0 (choices_from (j + 1) rows))
          (row_other (j + suc h.file) h.place j 0 row (λ e. omega (arith, e)))
          ∙ ap (λ k. find (is_for k h.place) (take d.0 (choices_from (j + 1) rows))) (sym file) ∙ h.none;
    }

choice_in : (j m : ℕ) (rows : List (List Link)) (x : HuxChoice) → slice_get (choices_from j rows) m ≡ Some x → IsChoiceIn j rows (take m (choices_from j rows)) x
choice_in j m [] x there = absurd (cc)
choice_in j m (row ∷ rows) x there =
    choice_step j m row rows x (λ d e. choice_in (j + 1) d rows x e) there (cases_lt m (length (each_from (choice_of j) 0 row)))

item_at : (front : List GroupTree) (before : List Spaces) (items : List NamedExtern) (arguments : List SupplyTree) (row : List Link) (n : ℕ) (l : Link)
    → AreLinked front before items arguments row → slice_get row n ≡ Some l → (item : NamedExtern) × (slice_get items n ≡ Some item)
item_at front before [] [] [] n l are there = absurd (cc)
item_at front before [] [] (k ∷ ls) n l are there = absurd are
item_at front before [] (x ∷ xs) row n l are there = absurd are
item_at front before (i ∷ is) [] row n l are there = absurd are
item_at front before (i ∷ is) (x ∷ xs) [] n l are there = absurd are
item_at front before (i ∷ is) (x ∷ xs) (k ∷ ls) zero l are there = (i, refl)
item_at front before (i ∷ is) (x ∷ xs) (k ∷ ls) (suc n) l are there = item_at front before is xs ls n l are.1 there

import_there : (b : BundleTree) (set : List Spaces) (rows : List (List Link)) (importer number : ℕ) (row : List Link) (l : Link) → AreLinks b set rows
    → slice_get rows importer ≡ Some row → slice_get row number ≡ Some l → (item : NamedExtern) × (import_in set importer number ≡ Some item)
import_there b set rows importer number row l are at_row at_link =
    let inside : importer < length rows = slice_get_within rows importer row at_row in
    let s = item_there set importer (omega (arith, inside, are.rows_are.count)) in
    let p = item_there b.parts importer (omega (arith, inside, are.rows_are.count, are.parts.count)) in
    let h = item_at b.front (take importer set) s.0.imports p.0.arguments row number l (are.rows_are.linked importer p.0 s.0 row p.1 s.1 at_row) at_link in
    (h.0, ap (option_and_then (λ (t : Spaces). slice_get t.imports number)) s.1 ∙ h.1)

both_so : {A B : Type 0} (o : Option A) (f : Option B) (a : A) → o ≡ Some a → f ≡ None → (is_some o && is_none f) ≡ true
both_so None f a is none = absurd (cc)
both_so (Some y) None a is none = refl
both_so (Some y) (Some g) a is none = absurd (cc)

pub placed : (b : BundleTree) (set : List Spaces) (rows : List (List Link)) → AreLinks b set rows → ArePlaced set (choices_from 0 rows)
placed b set rows are m x lt there =
    let h = choice_in 0 m rows x there in
    let file : 0 + h.file ≡ h.file = omega arith in
    let i = import_there b set rows h.file h.place h.row h.link are h.row_there h.there in
    let y = choice_of (0 + h.file) h.place h.link in
    subst (λ z. has_place set (take m (choices_from 0 rows)) z ≡ true) (sym h.choice)
    (both_so (import_in set (0 + h.file) h.place) (find (is_for (0 + h.file) h.place) (take m (choices_from 0 rows))) i.0
    (ap (λ k. import_in set k h.place) file ∙ i.1) h.none)

-- ---- files that are read back

read_from : (at : ℕ) (front : List ℕ) (files : List (List ℕ)) → at ≡ length front → parts_of (front ++ bytes_of files) (spans_from at files) ≡ files
read_from at front [] is = refl
read_from at front (f ∷ fs) is =
    let next : at + length f ≡ length (front ++ f) = omega (arith, is, length-append front f) in
    ap (λ xs. take (length f) xs ∷ parts_of (front ++ (f ++ bytes_of fs)) (spans_from (at + length f) fs)) (dropped at front (f ++ bytes_of fs) is)
    ∙ ap (λ xs. xs ∷ parts_of (front ++ (f ++ bytes_of fs)) (spans_from (at + length f) fs)) (taken f (bytes_of fs))
    ∙ ap (λ xs. f ∷ parts_of xs (spans_from (at + length f) fs)) (sym (append_assoc front f (bytes_of fs)))
    ∙ ap (λ xs. f ∷ xs) (read_from (at + length f) (front ++ f) fs next)
  where
    dropped : (n : ℕ) (xs ys : List ℕ) → n ≡ length xs → drop n (xs ++ ys) ≡ ys
    dropped zero [] ys e = refl
    dropped (suc n) [] ys e = absurd (omega (arith, e))
    dropped zero (x ∷ xs) ys e = absurd (omega (arith, e))
    dropped (suc n) (x ∷ xs) ys e = dropped n xs ys (omega (arith, e))

    taken : (xs ys : List ℕ) → take (length xs) (xs ++ ys) ≡ xs
    taken [] [] = refl
    taken [] (y ∷ ys) = refl
    taken (x ∷ xs) ys = ap (λ zs. x ∷ zs) (taken xs ys)

pub read_back : (files : List (List ℕ)) → parts_of (bytes_of files) (spans_from 0 files) ≡ files
read_back files = read_from 0 [] files refl

within_from : (at : ℕ) (files : List (List ℕ)) (bytes : List ℕ) → length bytes ≡ at + length (bytes_of files) → AreWithin bytes (spans_from at files)
within_from at [] bytes is = tt
within_from at (f ∷ fs) bytes is =
    let long : length (f ++ bytes_of fs) ≡ length f + length (bytes_of fs) = length-append f (bytes_of fs) in
    (omega (arith, is, long), within_from (at + length f) fs bytes (omega (arith, is, long)))

pub within : (files : List (List ℕ)) → AreWithin (bytes_of files) (spans_from 0 files)
within files = within_from 0 files (bytes_of files) (omega arith)
