-- Members of lists, one behind the other with commas.
use Rattle.std.proofs.Common.{◌≡◌, ℕ, zero, suc, ◌+◌, ◌<◌, ◌≤◌, ◌==◌, false, List, [], ◌∷◌, ◌++◌, length, drop, get_or, Option, refl, sym, ap, ◌∙◌, append_assoc, append-nil, add-one}
use Rattle.std.specs.Prelude.{codes}
use Rattle.std.specs.Int.{bit_at}
use Rattle.std.specs.List.{flat_map}
use Rattle.cm_types.specs.Types.{Ty, Fields, FieldsKind, field, no_fields, tuple_type}
use Rattle.cm_types.specs.TypeTrees.{field_of, fields_of, parts_of, type_of}
use Rattle.cm_types.specs.Values.{Val, Vals, no_vals}
use Rattle.cm_types.specs.ValueTrees.{value_of, values_of}
use Rattle.cm_types.specs.declared.type_trees.Field.{Field}
use Rattle.cm_types.specs.declared.type_trees.TypeNode.{TypeNode}
use Rattle.cm_types.specs.declared.values.Value.{Value}
use Rattle.cm_types.proofs.ValueTreesLaws.{values_next}
use Rattle.cm_lemmas.proofs.Lists.{drop_past, rest_from}
use Rattle.cm_values.specs.Spelling.{Words, comma_before, each, fields_by, label_spelling, set_labels, spelling_by, with_commas}
use Rattle.cm_values.specs.Written.{front}
use Rattle.cm_values.proofs.FrontLaws.{behind}

-- what is left of a list behind so many members
abbrev pub from_place : ℕ → List (List ℕ) → List ℕ
from_place zero ps = with_commas ps
from_place (suc n) ps = flat_map (λ q. codes ", " ++ q) ps

place_step : (i : ℕ) (p : List ℕ) (ps : List (List ℕ)) → from_place i (p ∷ ps) ≡ comma_before i ++ (p ++ from_place (suc i) ps)
place_step zero p ps = refl
place_step (suc n) p ps = append_assoc (codes ", ") p (flat_map (λ q. codes ", " ++ q) ps)

place_end : (i : ℕ) → from_place i [] ≡ []
place_end zero = refl
place_end (suc n) = refl

-- the next member was written, behind its comma
pub listed_next : (i : ℕ) (p : List ℕ) (ps qs : List (List ℕ)) (out comma next all : List ℕ) → qs ≡ p ∷ ps → comma ≡ out ++ comma_before i → next ≡ comma ++ p → out ++ from_place i qs ≡ all → next ++ from_place (i + 1) ps ≡ all
listed_next i p ps qs out comma next all e f g h =
    rw (add-one, g, f, append_assoc (out ++ comma_before i) p (from_place (suc i) ps), append_assoc out (comma_before i) (p ++ from_place (suc i) ps), sym (place_step i p ps), sym e) h

pub listed_end : (i : ℕ) (qs : List (List ℕ)) (out all : List ℕ) → qs ≡ [] → out ++ from_place i qs ≡ all → out ≡ all
listed_end i qs out all e h = sym (append-nil out) ∙ (ap (λ (z : List ℕ). out ++ z) (sym (ap (from_place i) e ∙ place_end i)) ∙ h)

-- the same as far as a front goes
pub shown_next : (r : Option ℕ) (i : ℕ) (p : List ℕ) (ps qs : List (List ℕ)) (out comma next all : List ℕ) → qs ≡ p ∷ ps → comma ≡ out ++ comma_before i → front r next ≡ front r (comma ++ p) → front r (out ++ from_place i qs) ≡ front r all → front r (next ++ from_place (i + 1) ps) ≡ front r all
shown_next r i p ps qs out comma next all e f g h =
    behind r next (comma ++ p) (from_place (i + 1) ps) g ∙ (ap (front r) (listed_next i p ps qs out comma (comma ++ p) (out ++ from_place i qs) e f refl refl) ∙ h)

pub shown_end : (r : Option ℕ) (i : ℕ) (qs : List (List ℕ)) (out all : List ℕ) → qs ≡ [] → front r (out ++ from_place i qs) ≡ front r all → front r out ≡ front r all
shown_end r i qs out all e h = ap (front r) (listed_end i qs out (out ++ from_place i qs) e refl) ∙ h

-- ---- values

pub each_next : (f : Val → List ℕ) (vs : List Value) (i : ℕ) (v : Value) → i < length vs → v ≡ get_or vs i v → each f (values_of (drop i vs)) ≡ f (value_of v) ∷ each f (values_of (drop (i + 1) vs))
each_next f vs i v lt is = ap (each f) (values_next vs i v lt is)

pub each_end : (f : Val → List ℕ) (vs : List Value) (i : ℕ) → length vs ≤ i → each f (values_of (drop i vs)) ≡ []
each_end f vs i le = rw (drop_past vs i le) refl

-- ---- fields

pub fields_next : (w : Words) (fs : List Field) (vs : List Value) (i : ℕ) (f : Field) (v : Value) (k : FieldsKind) → i < length fs → f ≡ get_or fs i f → i < length vs → v ≡ get_or vs i v → fields_by w k (fields_of (drop i fs)) (values_of (drop i vs)) ≡ (label_spelling k (field_of f).0 ++ spelling_by w (field_of f).1 (value_of v)) ∷ fields_by w k (fields_of (drop (i + 1) fs)) (values_of (drop (i + 1) vs))
fields_next w fs vs i f v k lt is lt2 is2 = rw (rest_from fs i f lt is, values_next vs i v lt2 is2) refl

pub parts_next : (w : Words) (ts : List TypeNode) (vs : List Value) (i : ℕ) (t : TypeNode) (v : Value) → i < length ts → t ≡ get_or ts i t → i < length vs → v ≡ get_or vs i v → fields_by w tuple_type (parts_of (drop i ts)) (values_of (drop i vs)) ≡ spelling_by w (type_of t) (value_of v) ∷ fields_by w tuple_type (parts_of (drop (i + 1) ts)) (values_of (drop (i + 1) vs))
parts_next w ts vs i t v lt is lt2 is2 = rw (rest_from ts i t lt is, values_next vs i v lt2 is2) refl

no_values : (w : Words) (k : FieldsKind) (fs : Fields) → fields_by w k fs no_vals ≡ []
no_values w k no_fields = refl
no_values w k (field l t fs) = refl

pub values_end : (w : Words) (k : FieldsKind) (fs : Fields) (vs : List Value) (i : ℕ) → length vs ≤ i → fields_by w k fs (values_of (drop i vs)) ≡ []
values_end w k fs vs i le = rw (drop_past vs i le) (no_values w k fs)

pub fields_end : (w : Words) (k : FieldsKind) (fs : List Field) (vs : Vals) (i : ℕ) → length fs ≤ i → fields_by w k (fields_of (drop i fs)) vs ≡ []
fields_end w k fs vs i le = rw (drop_past fs i le) refl

pub parts_end : (w : Words) (ts : List TypeNode) (vs : Vals) (i : ℕ) → length ts ≤ i → fields_by w tuple_type (parts_of (drop i ts)) vs ≡ []
parts_end w ts vs i le = rw (drop_past ts i le) refl

-- ---- flags

pub label_not_set : (ls : List (List ℕ)) (n i : ℕ) (l : List ℕ) → i < length ls → l ≡ get_or ls i l → (bit_at n i == 1) ≡ false → set_labels i (drop i ls) n ≡ set_labels (i + 1) (drop (i + 1) ls) n
label_not_set ls n i l lt is e = rw (rest_from ls i l lt is, e) refl

pub ruleset list_laws = (label_not_set)

-- ---- characters

last_one : (f : ℕ → List ℕ) (ys : List ℕ) (x : ℕ) → flat_map f (ys ++ x ∷ []) ≡ flat_map f ys ++ f x
last_one f [] x = append-nil (f x)
last_one f (y ∷ ys) x = ap (λ (z : List ℕ). f y ++ z) (last_one f ys x) ∙ sym (append_assoc (f y) (flat_map f ys) (f x))

pub characters_next : (f : ℕ → List ℕ) (ys : List ℕ) (x : ℕ) (start now next : List ℕ) → now ≡ start ++ flat_map f ys → next ≡ now ++ f x → next ≡ start ++ flat_map f (ys ++ x ∷ [])
characters_next f ys x start now next e h =
    h ∙ (ap (λ (z : List ℕ). z ++ f x) e ∙ (append_assoc start (flat_map f ys) (f x) ∙ ap (λ (z : List ℕ). start ++ z) (sym (last_one f ys x))))
