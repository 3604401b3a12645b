-- What a table answers after one more export.
use Rattle.std.proofs.Common.{◌≡◌, ◌∙◌, Bool, true, false, cond, List, [], ◌∷◌, ◌++◌, Some, refl, sym, ap, filter, append-nil, inl, inr}
use Rattle.std.proofs.lemmas.Bool.{cases_Bool}
use Rattle.std.proofs.lemmas.List.Elements.{filter-append}
use Rattle.std.specs.BTreeMap.{BTreeMap, get, is_at}
use Rattle.std.specs.List.{AllByRecursion}
use Rattle.std.specs.Ordering.{is_eq}
use Rattle.std.specs.Prelude.{not, ◌&&◌}
use Rattle.semver.specs.Parse.{Parts}
use Rattle.cm_match_model.specs.declared.candidates.Candidate.TheVariants as candidate
use Rattle.cm_match_serving.specs.declared.greatest.Greatest.{Greatest}
use Rattle.cm_match_serving.specs.declared.series.Series.{Series}
use Rattle.cm_match_model.specs.Fitting.{NamedExport, only}
use Rattle.cm_match_serving.specs.Greatest.{from_greatest, from_row, if_not_below}
use Rattle.cm_match_model.specs.Fitting.{and_also}
use Rattle.cm_match_serving.specs.Readings.{HasForm, Row, is_below, is_in_row, is_versioned, name_read, row_cmp, row_of, series_order, series_view, version_or_zero}
use Rattle.cm_match_serving.specs.ExportTables.{Answers}
use Rattle.cm_match_serving.proofs.GreatestLaws.{and_none}
use Rattle.cm_match_serving.proofs.SeriesRows.{row_apart, row_exact, row_itself}

only_more : (es : List NamedExport) (e : NamedExport) → only (es ++ e ∷ []) ≡ and_also (only es) (candidate.One e.component e.number)
only_more [] e = refl
only_more (a ∷ []) e = refl
only_more (a ∷ b ∷ es) e = refl

-- one more export among those of a kind
pub only_filtered : (p : NamedExport → Bool) (es : List NamedExport) (e : NamedExport)
    → only (filter p (es ++ e ∷ [])) ≡ and_also (only (filter p es)) (if_not_below (not (p e)) (candidate.One e.component e.number))
only_filtered p es e = ap only (filter-append p es (e ∷ [])) ∙ elim (cases_Bool (p e)) [
  | inl y ↦ rw y (only_more (filter p es) e)
  | inr n ↦ rw n (ap only (append-nil (filter p es)) ∙ sym (and_none (only (filter p es))))
]

not_not : (b : Bool) → not (true && not b) ≡ b
not_not true = refl
not_not false = refl

pub answers_more : (old new : BTreeMap Series Greatest) (k : Series) (g : Greatest) (v : Parts) (es : List NamedExport) (e : NamedExport)
    → ((q : Series) → get series_order new q ≡ cond (is_at (series_order k) q) (Some g) (get series_order old q))
    → series_view k ≡ row_of (name_read e.name).0 (name_read e.name).1 → v ≡ version_or_zero (name_read e.name).1
    → ((w : Parts) → from_greatest g w ≡ and_also (from_row (get series_order old k) w) (if_not_below (is_below v w) (candidate.One e.component e.number)))
    → is_versioned k.kind ≡ true → Answers old es → Answers new (es ++ e ∷ [])
answers_more old new k g v es e updates row version grows versioned before = λ s w t.
    let held : Row → NamedExport → Bool = λ r x. is_in_row r w (name_read x.name) in
    let one = candidate.One e.component e.number in
    elim (cases_Bool (is_eq (row_cmp (series_view k) (series_view s)))) [
      | inl h ↦
          let same : series_view k ≡ series_view s = row_exact (series_view k) (series_view s) h in
          let mine : is_eq (row_cmp (series_view s) (row_of (name_read e.name).0 (name_read e.name).1)) ≡ true = ap (λ r. is_eq (row_cmp (series_view s) r)) (sym row ∙ same) ∙ row_itself (series_view s) in
          let told : not (held (series_view s) e) ≡ is_below v w = ap (λ b. not (b && not (is_below (version_or_zero (name_read e.name).1) w))) mine ∙ not_not _ ∙ ap (λ x. is_below x w) (sym version) in
          ap (λ o. from_row o w) (updates s ∙ ap (λ b. cond b (Some g) (get series_order old s)) h)
          ∙ grows w
          ∙ ap (λ c. and_also c (if_not_below (is_below v w) one)) (before k w versioned ∙ ap (λ r. only (filter (held r) es)) same)
          ∙ ap (λ b. and_also (only (filter (held (series_view s)) es)) (if_not_below b one)) (sym told)
          ∙ sym (only_filtered (held (series_view s)) es e)
      | inr h ↦
          let other : is_eq (row_cmp (series_view s) (row_of (name_read e.name).0 (name_read e.name).1)) ≡ false = ap (λ r. is_eq (row_cmp (series_view s) r)) (sym row) ∙ row_apart (series_view k) (series_view s) h in
          let told : held (series_view s) e ≡ false = ap (λ b. b && not (is_below (version_or_zero (name_read e.name).1) w)) other in
          ap (λ o. from_row o w) (updates s ∙ ap (λ b. cond b (Some g) (get series_order old s)) h)
          ∙ before s w t
          ∙ sym (and_none (only (filter (held (series_view s)) es)))
          ∙ ap (λ b. and_also (only (filter (held (series_view s)) es)) (if_not_below (not b) one)) (sym told)
          ∙ sym (only_filtered (held (series_view s)) es e)
    ]

pub names_more : (es : List NamedExport) (e : NamedExport) → AllByRecursion (λ e. HasForm e.name) es → HasForm e.name
    → AllByRecursion (λ e. HasForm e.name) (es ++ e ∷ [])
names_more [] e all one = (one, tt)
names_more (x ∷ xs) e all one = (all.0, names_more xs e all.1 one)
