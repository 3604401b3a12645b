-- The exports of names without versions, and one export more.
use Rattle.std.proofs.Common.{◌≡◌, ◌≢◌, ◌∙◌, ℕ, zero, suc, Bool, true, false, ◌||◌, List, [], ◌∷◌, ◌++◌, length, set, slice_get, Some, None, refl, sym, ap, filter, inl, inr}
use Rattle.std.proofs.lemmas.Bool.{cases_Bool, cases_eq}
use Rattle.std.proofs.lemmas.Slice.Eq.{bytes_eq-Decides}
use Rattle.std.specs.BTreeMap.{BTreeMap}
use Rattle.std.specs.List.{list_any}
use Rattle.std.specs.Ordering.{is_eq}
use Rattle.std.specs.Prelude.{not, ◌&&◌}
use Rattle.std.specs.Str.{bytes_eq}
use Rattle.semver.specs.Parse.{Parts}
use Rattle.cm_names.specs.TextTables.{texts_of}
use Rattle.cm_match_serving.specs.declared.unversioned.NameTable.{NameTable}
use Rattle.cm_match_model.specs.declared.candidates.Candidate.{Candidate}
use Rattle.cm_match_model.specs.declared.candidates.Candidate.TheVariants as candidate
use Rattle.cm_match_serving.specs.declared.greatest.Greatest.{Greatest}
use Rattle.cm_match_serving.specs.declared.series.Series.{Series}
use Rattle.cm_match_model.specs.Fitting.{NamedExport, only}
use Rattle.cm_match_serving.specs.Greatest.{if_not_below}
use Rattle.cm_match_model.specs.Fitting.{and_also}
use Rattle.cm_names.specs.Distinct.{AreDistinct}
use Rattle.cm_match_serving.specs.Unversioned.{StaysSame, TellNames}
use Rattle.cm_match_serving.specs.Readings.{Row, fits_read, is_below, is_in_row, is_prerelease, is_versioned, name_read, only_named, row_cmp, row_of, series_view, unversioned_row, version_or_zero}
use Rattle.cm_match_serving.specs.ExportTables.{Answers}
use Rattle.cm_match_serving.proofs.Additions.{only_filtered}
use Rattle.cm_match_serving.proofs.GreatestLaws.{and_none}
use Rattle.cm_match_serving.proofs.SeriesRows.{row_exact}
use Rattle.cm_lemmas.proofs.Lists.{absent, get_front, get_last, old_or_last}
use Rattle.cm_lemmas.proofs.Options.{none_some, some_is}

-- ---- lists

set_same : {A : Type 0} (xs : List A) (k : ℕ) (x y : A) → slice_get xs k ≡ Some y → slice_get (set xs k x) k ≡ Some x
set_same [] k x y e = none_some y e
set_same (z ∷ xs) zero x y e = refl
set_same (z ∷ xs) (suc k) x y e = set_same xs k x y e

set_other : {A : Type 0} (xs : List A) (k n : ℕ) (x : A) → n ≢ k → slice_get (set xs k x) n ≡ slice_get xs n
set_other [] k n x d = refl
set_other (z ∷ xs) zero zero x d = absurd (d refl)
set_other (z ∷ xs) zero (suc n) x d = refl
set_other (z ∷ xs) (suc k) zero x d = refl
set_other (z ∷ xs) (suc k) (suc n) x d = set_other xs k n x (λ e. d (ap (λ m. suc m) e))

both_false : (a b : Bool) → (a || b) ≡ false → (a ≡ false) × (b ≡ false)
both_false true b e = absurd cc
both_false false b e = (refl, e)

not_any : (ts : List (List ℕ)) (t u : List ℕ) → list_any (bytes_eq u) (ts ++ t ∷ []) ≡ false → (list_any (bytes_eq u) ts ≡ false) × (bytes_eq u t ≡ false)
not_any [] t u e = (refl, (both_false (bytes_eq u t) false e).0)
not_any (x ∷ ts) t u e =
    let p = both_false (bytes_eq u x) (list_any (bytes_eq u) (ts ++ t ∷ [])) e in
    let q = not_any ts t u p.1 in
    (rw p.0 q.0, q.1)

-- ---- one export more

-- an export of this name, which has no version
abbrev IsOf : NamedExport → List ℕ → Type 0
IsOf e m = name_read e.name ≡ (m, None)

module _ (es : List NamedExport) (e : NamedExport) (m : List ℕ) (is : IsOf e m) where
  same_name : (name : List ℕ) → bytes_eq name m ≡ true → only_named name (es ++ e ∷ []) ≡ and_also (only_named name es) (candidate.One e.component e.number)
  same_name name h =
      only_filtered (λ x. fits_read (name, None) (name_read x.name)) es e
      ∙ ap (λ b. and_also (only_named name es) (if_not_below (not b) (candidate.One e.component e.number))) (ap (fits_read (name, None)) is ∙ h)

  other_name : (name : List ℕ) → bytes_eq name m ≡ false → only_named name (es ++ e ∷ []) ≡ only_named name es
  other_name name h =
      only_filtered (λ x. fits_read (name, None) (name_read x.name)) es e
      ∙ ap (λ b. and_also (only_named name es) (if_not_below (not b) (candidate.One e.component e.number))) (ap (fits_read (name, None)) is ∙ h)
      ∙ and_none (only_named name es)

  -- of a name that is there
  pub found_more : (old new : NameTable) (k : ℕ) (c : Candidate) → texts_of new.names ≡ texts_of old.names → slice_get (texts_of old.names) k ≡ Some m → slice_get old.candidates.items k ≡ Some c
      → new.candidates.items ≡ set old.candidates.items k (and_also c (candidate.One e.component e.number)) → AreDistinct (texts_of old.names) → TellNames old es → TellNames new (es ++ e ∷ [])
  found_more old new k c names at was now distinct t = record {
    there = λ name n f.
        let g : slice_get (texts_of old.names) n ≡ Some name = ap (λ ts. slice_get ts n) (sym names) ∙ f in
        elim (cases_eq n k) [
          | inl y ↦
              let one : name ≡ m = some_is name m (sym g ∙ ap (slice_get (texts_of old.names)) y ∙ at) in
              let had : c ≡ only_named name es = some_is c (only_named name es) (sym was ∙ ap (slice_get old.candidates.items) (sym y) ∙ t.there name n g) in
              ap (λ cs. slice_get cs n) now
              ∙ ap (slice_get (set old.candidates.items k (and_also c (candidate.One e.component e.number)))) y
              ∙ set_same old.candidates.items k (and_also c (candidate.One e.component e.number)) c was
              ∙ ap (λ x. Some (and_also x (candidate.One e.component e.number))) had
              ∙ ap (λ (x : Candidate). Some x) (sym (same_name name ((bytes_eq-Decides name m).1 one)))
          | inr d ↦
              let apart : bytes_eq name m ≡ false = elim (cases_Bool (bytes_eq name m)) [
                | inl y ↦ absurd (d (distinct m n k (g ∙ ap (λ (x : List ℕ). Some x) ((bytes_eq-Decides name m).0 y)) at))
                | inr o ↦ o
              ] in
              ap (λ cs. slice_get cs n) now
              ∙ set_other old.candidates.items k n (and_also c (candidate.One e.component e.number)) d
              ∙ t.there name n g
              ∙ ap (λ (x : Candidate). Some x) (sym (other_name name apart))
        ];
    none = λ name f.
        let g : list_any (bytes_eq name) (texts_of old.names) ≡ false = ap (list_any (bytes_eq name)) (sym names) ∙ f in
        other_name name (turned m name (absent (texts_of old.names) name m k g at)) ∙ t.none name g;
  }
    where
      turned : (a b : List ℕ) → bytes_eq a b ≡ false → bytes_eq b a ≡ false
      turned a b h = elim (cases_Bool (bytes_eq b a)) [
        | inl y ↦ let g = sym h ∙ (bytes_eq-Decides a b).1 (sym ((bytes_eq-Decides b a).0 y)) in absurd cc
        | inr o ↦ o
      ]

  -- of a name that was not there
  pub put_more : (old new : NameTable) → texts_of new.names ≡ texts_of old.names ++ m ∷ [] → length old.candidates.items ≡ length (texts_of old.names)
      → new.candidates.items ≡ old.candidates.items ++ candidate.One e.component e.number ∷ [] → list_any (bytes_eq m) (texts_of old.names) ≡ false → TellNames old es → TellNames new (es ++ e ∷ [])
  put_more old new names long now fresh t = record {
    there = λ name n f. elim (old_or_last (texts_of old.names) m n name (ap (λ ts. slice_get ts n) (sym names) ∙ f)) [
      | inl g ↦
          ap (λ cs. slice_get cs n) now
          ∙ get_front old.candidates.items (candidate.One e.component e.number ∷ []) n (only_named name es) (t.there name n g)
          ∙ ap (λ (x : Candidate). Some x) (sym (other_name name (absent (texts_of old.names) m name n fresh g)))
      | inr g ↦
          let none : only_named name es ≡ candidate.None = ap (λ x. only_named x es) g.1 ∙ t.none m fresh in
          ap (λ cs. slice_get cs n) now
          ∙ ap (slice_get (old.candidates.items ++ candidate.One e.component e.number ∷ [])) (g.0 ∙ sym long)
          ∙ get_last old.candidates.items (candidate.One e.component e.number)
          ∙ ap (λ x. Some (and_also x (candidate.One e.component e.number))) (sym none)
          ∙ ap (λ (x : Candidate). Some x) (sym (same_name name ((bytes_eq-Decides name m).1 g.1)))
    ];
    none = λ name f.
        let p = not_any (texts_of old.names) m name (ap (list_any (bytes_eq name)) (sym names) ∙ f) in
        other_name name p.1 ∙ t.none name p.0;
  }

-- an export with a version changes nothing of names without one
pub names_stay : (table : NameTable) (es : List NamedExport) (e : NamedExport) (m : List ℕ) (v : Parts) → name_read e.name ≡ (m, Some v) → TellNames table es → TellNames table (es ++ e ∷ [])
names_stay table es e m v is t = record {
  there = λ name n f. t.there name n f ∙ ap (λ (x : Candidate). Some x) (sym (same name));
  none = λ name f. same name ∙ t.none name f;
}
  where
    same : (name : List ℕ) → only_named name (es ++ e ∷ []) ≡ only_named name es
    same name =
        only_filtered (λ x. fits_read (name, None) (name_read x.name)) es e
        ∙ ap (λ b. and_also (only_named name es) (if_not_below (not b) (candidate.One e.component e.number))) (ap (fits_read (name, None)) is)
        ∙ and_none (only_named name es)

-- a series of names with versions has no name without one
apart_row : (s : Series) (m : List ℕ) → is_versioned s.kind ≡ true → is_eq (row_cmp (series_view s) (unversioned_row m)) ≡ false
apart_row s m v = elim (cases_Bool (is_eq (row_cmp (series_view s) (unversioned_row m)))) [
  | inl y ↦ let e : series_view s ≡ unversioned_row m = row_exact (series_view s) (unversioned_row m) y in let g = sym v ∙ ap (λ (r : Row). is_versioned r.1) e in absurd cc
  | inr n ↦ n
]

-- an export without a version changes nothing of the series of versions
pub answers_stay : (rows : BTreeMap Series Greatest) (es : List NamedExport) (e : NamedExport) (m : List ℕ) → name_read e.name ≡ (m, None) → Answers rows es → Answers rows (es ++ e ∷ [])
answers_stay rows es e m is a = λ s w v.
    let held : is_in_row (series_view s) w (name_read e.name) ≡ false =
    ap (is_in_row (series_view s) w) is ∙ ap (λ b. b && not (is_below (version_or_zero None) w)) (apart_row s m v) in
    a s w v
    ∙ sym (only_filtered (λ x. is_in_row (series_view s) w (name_read x.name)) es e
    ∙ ap (λ b. and_also (only (filter (λ x. is_in_row (series_view s) w (name_read x.name)) es)) (if_not_below (not b) (candidate.One e.component e.number))) held
    ∙ and_none (only (filter (λ x. is_in_row (series_view s) w (name_read x.name)) es)))

-- the row of a version is one of versions
pub versioned_row : (s : Series) (n : List ℕ) (v : Parts) → series_view s ≡ row_of n (Some v) → is_versioned s.kind ≡ true
versioned_row s n v e = ap (λ (r : Row). is_versioned r.1) e ∙ by (is_prerelease v) refl
  where
    by : (b : Bool) → is_prerelease v ≡ b → is_versioned (row_of n (Some v)).1 ≡ true
    by true h = rw h refl
    by false h = rw h refl

pub same_tells : (old new : NameTable) (es : List NamedExport) → StaysSame old new → TellNames old es → TellNames new es
same_tells old new es s t = record {
  there = λ name n f. ap (λ cs. slice_get cs n) s.candidates ∙ t.there name n (ap (λ ts. slice_get ts n) (sym s.names) ∙ f);
  none = λ name f. t.none name (ap (list_any (bytes_eq name)) (sym s.names) ∙ f);
}
