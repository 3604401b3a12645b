-- What fits, as names are read.
use Rattle.std.proofs.Common.{◌≡◌, ◌∙◌, ℕ, Bool, true, false, List, [], ◌∷◌, Option, Some, None, Result, Ok, refl, sym, ap, subst, inl, inr, filter}
use Rattle.std.proofs.lemmas.Bool.{cases_Bool}
use Rattle.std.proofs.lemmas.Slice.Eq.{bytes_eq-Decides}
use Rattle.std.specs.List.{AllByRecursion}
use Rattle.std.specs.Option.{option_map_or}
use Rattle.std.specs.Prelude.{not, ◌&&◌, ◌||◌}
use Rattle.std.specs.Result.{result_ok}
use Rattle.std.specs.Str.{bytes_eq}
use Rattle.semver.specs.Parse.{Parts, version_parts}
use Rattle.semver.specs.declared.error.Error.{Error}
use Rattle.cm_types.specs.ExternNames.{HasLabels, NameTree, constructor, form_of, interface, method, name_spelling, plain, static}
use Rattle.cm_match_model.specs.Fitting.{NamedExport, candidates, fits, is_compatible_name, only}
use Rattle.cm_match_model.specs.Fitting.{and_also}
use Rattle.cm_match_serving.specs.Readings.{HasForm, fits_read, is_in_row, is_prerelease, name_read, prereleases_row, releases_row, tree_read, unversioned_row}
use Rattle.cm_match_model.specs.Fitting.{allows}
use Rattle.cm_match_model.proofs.Compatible.{allows_itself, compatible_is, version_read}
use Rattle.cm_match_serving.proofs.CaretRows.{caret_is, rows_apart, unversioned_is}
use Rattle.cm_match_serving.proofs.Splits.{split}
use Rattle.cm_lemmas.proofs.Bools.{or_false}

-- ---- names

has_version : NameTree → Bool
has_version (plain l) = false
has_version (method r m) = false
has_version (static r m) = false
has_version (constructor r) = false
has_version (interface n p i None) = false
has_version (interface n p i (Some v)) = true

record Versioned (t : NameTree) : Type 0 where
  namespace : List ℕ
  pkg : List ℕ
  name : List ℕ
  version : List ℕ
  is : t ≡ interface namespace pkg name (Some version)

versioned_is : (t : NameTree) → has_version t ≡ true → Versioned t
unfolding has_version
versioned_is (plain l) h = cc h
versioned_is (method r m) h = cc h
versioned_is (static r m) h = cc h
versioned_is (constructor r) h = cc h
versioned_is (interface n p i None) h = cc h
versioned_is (interface n p i (Some v)) h = record { namespace = n; pkg = p; name = i; version = v; is = refl }

plainly_read : (t : NameTree) → has_version t ≡ false → tree_read t ≡ (name_spelling t, None)
unfolding has_version
plainly_read (plain l) h = refl
plainly_read (method r m) h = refl
plainly_read (static r m) h = refl
plainly_read (constructor r) h = refl
plainly_read (interface n p i None) h = refl
plainly_read (interface n p i (Some v)) h = cc h

first_plain : (s : NameTree) (t : Option NameTree) → has_version s ≡ false → is_compatible_name (Some s) t ≡ false
unfolding has_version
first_plain (plain l) t h = refl
first_plain (method r m) t h = refl
first_plain (static r m) t h = refl
first_plain (constructor r) t h = refl
first_plain (interface n p i None) t h = refl
first_plain (interface n p i (Some v)) t h = cc h

second_plain : (n p i v : List ℕ) (t : NameTree) → has_version t ≡ false → is_compatible_name (Some (interface n p i (Some v))) (Some t) ≡ false
unfolding has_version
second_plain n p i v (plain l) h = refl
second_plain n p i v (method r m) h = refl
second_plain n p i v (static r m) h = refl
second_plain n p i v (constructor r) h = refl
second_plain n p i v (interface m q j None) h = refl
second_plain n p i v (interface m q j (Some w)) h = cc h

-- a name with a version, as it is read
versioned_read : (n p i v : List ℕ) (q : Parts) → version_parts v ≡ Ok q → tree_read (interface n p i (Some v)) ≡ (name_spelling (interface n p i None), Some q)
versioned_read n p i v q h = ap (λ (r : Result Parts Error). (name_spelling (interface n p i None), result_ok r)) h

or_within : (s b c : Bool) → (s ≡ true → b ≡ true) → (s ≡ true → c ≡ true) → (s || (b && c)) ≡ (b && c)
or_within true b c f g = rw (f refl, g refl) refl
or_within false b c f g = refl

no_fixed : (b : Bool) → b ≡ not b → ⊥
no_fixed true e = cc e
no_fixed false e = cc e

-- the name without the version, and the version, of a tree that has them
bare : NameTree → List ℕ
bare (interface n p i v) = name_spelling (interface n p i None)
bare t = name_spelling t

version_in : NameTree → List ℕ
version_in (interface n p i (Some v)) = v
version_in t = []

both_versioned : (n p i v m q j w : List ℕ) (x y : Parts) → version_parts v ≡ Ok x → version_parts w ≡ Ok y
    → (bytes_eq (name_spelling (interface n p i (Some v))) (name_spelling (interface m q j (Some w))) ≡ true → interface n p i (Some v) ≡ interface m q j (Some w))
    → (bytes_eq (name_spelling (interface n p i (Some v))) (name_spelling (interface m q j (Some w))) || is_compatible_name (Some (interface n p i (Some v))) (Some (interface m q j (Some w))))
    ≡ fits_read (tree_read (interface n p i (Some v))) (tree_read (interface m q j (Some w)))
unfolding bare version_in
both_versioned n p i v m q j w x y h k same =
    let N = name_spelling (interface n p i None) in
    let M = name_spelling (interface m q j None) in
    let e : bytes_eq (name_spelling (interface n p i (Some v))) (name_spelling (interface m q j (Some w))) ≡ true → bytes_eq N M ≡ true = λ t. (bytes_eq-Decides N M).1 (ap bare (same t)) in
    let parts : bytes_eq (name_spelling (interface n p i (Some v))) (name_spelling (interface m q j (Some w))) ≡ true → ◌≡◌ {A = Result Parts Error} (Ok x) (Ok y) = λ t. sym h ∙ ap version_parts (ap version_in (same t)) ∙ k in
    let a : bytes_eq (name_spelling (interface n p i (Some v))) (name_spelling (interface m q j (Some w))) ≡ true → allows x y ≡ true = λ t. ap (λ (r : Result Parts Error). option_map_or (allows x) (result_ok r) true) (sym (parts t)) ∙ allows_itself x in
    ap (λ t. bytes_eq (name_spelling (interface n p i (Some v))) (name_spelling (interface m q j (Some w))) || (bytes_eq N M && t)) (compatible_is v w x y h k)
    ∙ or_within (bytes_eq (name_spelling (interface n p i (Some v))) (name_spelling (interface m q j (Some w)))) (bytes_eq N M) (allows x y) e a
    ∙ sym (ap (λ r. fits_read r (tree_read (interface m q j (Some w)))) (versioned_read n p i v x h) ∙ ap (fits_read (N, Some x)) (versioned_read m q j w y k))

-- the texts fit exactly if what they are read as does
abbrev TreesFit : NameTree → NameTree → Type 0
TreesFit s t = (bytes_eq (name_spelling s) (name_spelling t) || is_compatible_name (Some s) (Some t)) ≡ fits_read (tree_read s) (tree_read t)

abbrev TellsApart : NameTree → NameTree → Type 0
TellsApart s t = name_spelling s ≡ name_spelling t → s ≡ t

with_versions : (n p i v m q j w : List ℕ) → HasLabels (interface n p i (Some v)) → HasLabels (interface m q j (Some w)) → TellsApart (interface n p i (Some v)) (interface m q j (Some w))
    → TreesFit (interface n p i (Some v)) (interface m q j (Some w))
with_versions n p i v m q j w a b same =
    let x = version_read v a.3 in
    let y = version_read w b.3 in
    both_versioned n p i v m q j w x.parts y.parts x.is y.is (λ t. same ((bytes_eq-Decides (name_spelling (interface n p i (Some v))) (name_spelling (interface m q j (Some w)))).0 t))

both_trees : (s t : NameTree) → Versioned s → Versioned t → HasLabels s → HasLabels t → TellsApart s t → TreesFit s t
both_trees s t x y =
    subst (λ s. HasLabels s → HasLabels t → TellsApart s t → TreesFit s t) (sym x.is)
    (subst (λ t. HasLabels (interface x.namespace x.pkg x.name (Some x.version)) → HasLabels t → TellsApart (interface x.namespace x.pkg x.name (Some x.version)) t → TreesFit (interface x.namespace x.pkg x.name (Some x.version)) t) (sym y.is)
    (with_versions x.namespace x.pkg x.name x.version y.namespace y.pkg y.name y.version))

-- a name with a version and one without are not the same
unlike : (s t : NameTree) (b : Bool) → has_version s ≡ b → has_version t ≡ not b → TellsApart s t → bytes_eq (name_spelling s) (name_spelling t) ≡ false
unlike s t b x y same = elim (cases_Bool (bytes_eq (name_spelling s) (name_spelling t))) [
  | inl e ↦ absurd (no_fixed b (sym x ∙ ap has_version (same ((bytes_eq-Decides (name_spelling s) (name_spelling t)).0 e)) ∙ y))
  | inr n ↦ n
]

first_versioned : (s t : NameTree) → Versioned s → has_version s ≡ true → has_version t ≡ false → HasLabels s → TellsApart s t → TreesFit s t
first_versioned s t v x y labels same =
    let compatible : is_compatible_name (Some s) (Some t) ≡ false = ap (λ s. is_compatible_name (Some s) (Some t)) v.is ∙ second_plain v.namespace v.pkg v.name v.version t y in
    let labelled : HasLabels (interface v.namespace v.pkg v.name (Some v.version)) = subst HasLabels v.is labels in
    let parts = version_read v.version labelled.3 in
    ap (λ c. bytes_eq (name_spelling s) (name_spelling t) || c) compatible ∙ or_false (bytes_eq (name_spelling s) (name_spelling t)) ∙ unlike s t true x y same
    ∙ sym (ap (λ r. fits_read r (tree_read t)) (ap tree_read v.is ∙ versioned_read v.namespace v.pkg v.name v.version parts.parts parts.is) ∙ ap (fits_read (name_spelling (interface v.namespace v.pkg v.name None), Some parts.parts)) (plainly_read t y))

second_versioned : (s t : NameTree) → Versioned t → has_version s ≡ false → has_version t ≡ true → HasLabels t → TellsApart s t → TreesFit s t
second_versioned s t v x y labels same =
    let labelled : HasLabels (interface v.namespace v.pkg v.name (Some v.version)) = subst HasLabels v.is labels in
    let parts = version_read v.version labelled.3 in
    ap (λ c. bytes_eq (name_spelling s) (name_spelling t) || c) (first_plain s (Some t) x) ∙ or_false (bytes_eq (name_spelling s) (name_spelling t)) ∙ unlike s t false x y same
    ∙ sym (ap (λ r. fits_read r (tree_read t)) (plainly_read s x) ∙ ap (fits_read (name_spelling s, None)) (ap tree_read v.is ∙ versioned_read v.namespace v.pkg v.name v.version parts.parts parts.is))

-- what fits, by trees
trees_fit : (s t : NameTree) → HasLabels s → HasLabels t → TellsApart s t → TreesFit s t
trees_fit s t ls lt same = elim (cases_Bool (has_version s)) [
  | inl x ↦ elim (cases_Bool (has_version t)) [
    | inl y ↦ both_trees s t (versioned_is s x) (versioned_is t y) ls lt same
    | inr y ↦ first_versioned s t (versioned_is s x) x y ls same
  ]
  | inr x ↦ elim (cases_Bool (has_version t)) [
    | inl y ↦ second_versioned s t (versioned_is t y) x y lt same
    | inr y ↦
        ap (λ c. bytes_eq (name_spelling s) (name_spelling t) || c) (first_plain s (Some t) x) ∙ or_false (bytes_eq (name_spelling s) (name_spelling t))
        ∙ sym (ap (λ r. fits_read r (tree_read t)) (plainly_read s x) ∙ ap (fits_read (name_spelling s, None)) (plainly_read t y))
  ]
]

-- ---- exports

same_filter : (p q : NamedExport → Bool) (es : List NamedExport) → AllByRecursion (λ e. HasForm e.name) es → ((e : NamedExport) → HasForm e.name → p e ≡ q e) → filter p es ≡ filter q es
same_filter p q [] all h = refl
same_filter p q (e ∷ es) all h = rw (h e all.0, same_filter p q es all.1 h) refl

-- ---- what the rows of a name have

pub unversioned_all : (n : List ℕ) (es : List NamedExport)
    → only (filter (λ e. is_in_row (unversioned_row n) (0, 0, 0, [], []) (name_read e.name)) es) ≡ only (filter (λ e. fits_read (n, None) (name_read e.name)) es)
unversioned_all n es = λ i. only (filter (λ e. unversioned_is n (name_read e.name) i) es)

pub releases_all : (n : List ℕ) (v : Parts) (es : List NamedExport) → is_prerelease v ≡ false
    → only (filter (λ e. is_in_row (releases_row n v) v (name_read e.name)) es) ≡ only (filter (λ e. fits_read (n, Some v) (name_read e.name)) es)
releases_all n v es h =
    let each : (m : List ℕ × Option Parts) → is_in_row (releases_row n v) v m ≡ fits_read (n, Some v) m =
    λ m. sym (caret_is n v m ∙ ap (λ t. is_in_row (releases_row n v) v m || (t && is_in_row (prereleases_row n v) v m)) h ∙ or_false (is_in_row (releases_row n v) v m)) in
    λ i. only (filter (λ e. each (name_read e.name) i) es)

pub both_all : (n : List ℕ) (v : Parts) (es : List NamedExport) → is_prerelease v ≡ true
    → and_also (only (filter (λ e. is_in_row (releases_row n v) v (name_read e.name)) es)) (only (filter (λ e. is_in_row (prereleases_row n v) v (name_read e.name)) es))
    ≡ only (filter (λ e. fits_read (n, Some v) (name_read e.name)) es)
both_all n v es h =
    sym (split (λ e. is_in_row (releases_row n v) v (name_read e.name)) (λ e. is_in_row (prereleases_row n v) v (name_read e.name)) (λ e. fits_read (n, Some v) (name_read e.name)) es
    (λ e. caret_is n v (name_read e.name) ∙ ap (λ t. is_in_row (releases_row n v) v (name_read e.name) || (t && is_in_row (prereleases_row n v) v (name_read e.name))) h)
    (λ e. rows_apart n v (name_read e.name)))

fits_is : (a b : List ℕ) → HasForm a → HasForm b → fits a b ≡ fits_read (name_read a) (name_read b)
fits_is a b x y =
    let same : TellsApart x.tree y.tree = λ e. ap (λ (o : Option NameTree). option_map_or (λ t. t) o x.tree) (sym x.read ∙ ap form_of (sym x.spelled ∙ e ∙ y.spelled) ∙ y.read) in
    let first : name_read a ≡ tree_read x.tree = ap (λ o. option_map_or tree_read o (a, None)) x.read in
    let second : name_read b ≡ tree_read y.tree = ap (λ o. option_map_or tree_read o (b, None)) y.read in
    ap (λ o. bytes_eq a b || is_compatible_name o (form_of b)) x.read
    ∙ ap (λ o. bytes_eq a b || is_compatible_name (Some x.tree) o) y.read
    ∙ ap (λ c. bytes_eq c b || is_compatible_name (Some x.tree) (Some y.tree)) (sym x.spelled)
    ∙ ap (λ c. bytes_eq (name_spelling x.tree) c || is_compatible_name (Some x.tree) (Some y.tree)) (sym y.spelled)
    ∙ trees_fit x.tree y.tree x.labels y.labels same
    ∙ sym (ap (λ r. fits_read r (name_read b)) first ∙ ap (fits_read (tree_read x.tree)) second)

pub candidates_are : (es : List NamedExport) (wanted : List ℕ) → AllByRecursion (λ e. HasForm e.name) es → HasForm wanted
    → candidates es wanted ≡ filter (λ e. fits_read (name_read wanted) (name_read e.name)) es
candidates_are es wanted all form = same_filter (λ e. fits wanted e.name) (λ e. fits_read (name_read wanted) (name_read e.name)) es all (λ e h. fits_is wanted e.name form h)
