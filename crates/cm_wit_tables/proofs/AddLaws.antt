-- Names that are added one part behind the other.
use Rattle.std.proofs.Common.{◌≡◌, ℕ, ◌+◌, ◌<◌, ◌≤◌, List, [], ◌∷◌, ◌++◌, length, map, drop, get_or, refl, sym, ap, ◌∙◌, append_assoc, append-nil}
use Rattle.std.proofs.lemmas.List.{drop_all}
use Rattle.std.specs.List.{flat_map}
use Rattle.cm_wit_reading.specs.declared.types.WitType.{WitType}
use Rattle.cm_wit_reading.specs.Types.{Ty, types_from}
use Rattle.cm_wit_reading.specs.TypeViews.{type_tree}
use Rattle.cm_wit_tables.specs.Declarations.{names_in, names_in_all}
use Rattle.cm_wit_tables.specs.TypeFaults.{borrowed_in, borrowed_in_all}
use Rattle.cm_wit_tables.specs.declared.names.Names.{Names}
use Rattle.cm_wit_tables.specs.Names.{Adds, texts}
use Rattle.cm_lemmas.proofs.Lists.{next_element}

abbrev pub Texts : Type 0
Texts = List (List ℕ)

pub adds_none : (x : Names) → Adds [] [] x x
adds_none x = record { all = sym (append-nil (texts x.all.items)); borrowed = sym (append-nil (texts x.borrowed.items)) }

pub adds_then : (a b c d : Texts) (x y z : Names) → Adds a b x y → Adds c d y z → Adds (a ++ c) (b ++ d) x z
adds_then a b c d x y z p q = record {
  all = q.all ∙ (ap (λ (l : Texts). l ++ c) p.all ∙ append_assoc (texts x.all.items) a c);
  borrowed = q.borrowed ∙ (ap (λ (l : Texts). l ++ d) p.borrowed ∙ append_assoc (texts x.borrowed.items) b d);
}

pub ruleset add_laws = (adds_none, adds_then)

-- ---- several parts

-- What stands there, and the names in the parts from the i-th on, make all.
pub record AddsEach {A B : Type 0} (names borrows : B → Texts) (view : A → B) (xs : List A) (i : ℕ) (old now : Names) : Type 0 where
  pub all : texts now.all.items ++ flat_map names (map view (drop i xs)) ≡ texts old.all.items ++ flat_map names (map view xs)
  pub borrowed : texts now.borrowed.items ++ flat_map borrows (map view (drop i xs)) ≡ texts old.borrowed.items ++ flat_map borrows (map view xs)

pub each_none : {A B : Type 0} (names borrows : B → Texts) (view : A → B) (xs : List A) (x : Names) → AddsEach names borrows view xs 0 x x
each_none names borrows view xs x = record { all = refl; borrowed = refl }

step : {A B : Type 0} (f : B → Texts) (view : A → B) (xs : List A) (i : ℕ) (now next whole : Texts) (x : A) → i < length xs → x ≡ get_or xs i x → next ≡ now ++ f (view x) → now ++ flat_map f (map view (drop i xs)) ≡ whole → next ++ flat_map f (map view (drop (i + 1) xs)) ≡ whole
step {A} {B} f view xs i now next whole x lt is n h =
    ap (λ (l : Texts). l ++ flat_map f (map view (drop (i + 1) xs))) n
    ∙ (append_assoc now (f (view x)) (flat_map f (map view (drop (i + 1) xs)))
    ∙ (sym (ap (λ (ys : List B). now ++ flat_map f ys) (next_element view xs i x lt is)) ∙ h))

pub each_next : {A B : Type 0} (names borrows : B → Texts) (view : A → B) (xs : List A) (i : ℕ) (old now next : Names) (x : A) → i < length xs → x ≡ get_or xs i x → Adds (names (view x)) (borrows (view x)) now next → AddsEach names borrows view xs i old now → AddsEach names borrows view xs (i + 1) old next
each_next names borrows view xs i old now next x lt is p h = record {
  all = step names view xs i (texts now.all.items) (texts next.all.items) _ x lt is p.all h.all;
  borrowed = step borrows view xs i (texts now.borrowed.items) (texts next.borrowed.items) _ x lt is p.borrowed h.borrowed;
}

last : {A B : Type 0} (f : B → Texts) (view : A → B) (xs : List A) (i : ℕ) (now whole : Texts) → length xs ≤ i → now ++ flat_map f (map view (drop i xs)) ≡ whole → now ≡ whole
last {A} {B} f view xs i now whole le h = sym (append-nil now) ∙ (sym (ap (λ (ys : List A). now ++ flat_map f (map view ys)) (drop_all i xs le)) ∙ h)

pub each_all : {A B : Type 0} (names borrows : B → Texts) (view : A → B) (xs : List A) (i : ℕ) (old now : Names) → length xs ≤ i → AddsEach names borrows view xs i old now → Adds (flat_map names (map view xs)) (flat_map borrows (map view xs)) old now
each_all names borrows view xs i old now le h = record {
  all = last names view xs i (texts now.all.items) _ le h.all;
  borrowed = last borrows view xs i (texts now.borrowed.items) _ le h.borrowed;
}

pub ruleset each_laws = (each_none, each_next, each_all)

-- ---- types behind commas

names_each : (ts : List Ty) → names_in_all (types_from ts) ≡ flat_map names_in ts
names_each [] = refl
names_each (t ∷ ts) = ap (λ (l : Texts). names_in t ++ l) (names_each ts)

borrows_each : (ts : List Ty) → borrowed_in_all (types_from ts) ≡ flat_map borrowed_in ts
borrows_each [] = refl
borrows_each (t ∷ ts) = ap (λ (l : Texts). borrowed_in t ++ l) (borrows_each ts)

pub types_all : (xs : List WitType) (i : ℕ) (old now : Names) → length xs ≤ i → AddsEach names_in borrowed_in type_tree xs i old now → Adds (names_in_all (types_from (map type_tree xs))) (borrowed_in_all (types_from (map type_tree xs))) old now
types_all xs i old now le h =
    let p = each_all names_in borrowed_in type_tree xs i old now le h in
    record {
      all = p.all ∙ ap (λ (l : Texts). texts old.all.items ++ l) (sym (names_each (map type_tree xs)));
      borrowed = p.borrowed ∙ ap (λ (l : Texts). texts old.borrowed.items ++ l) (sym (borrows_each (map type_tree xs)));
    }
