-- The rows that have what the caret of a version allows.
use Rattle.std.proofs.Common.{◌≡◌, ◌∙◌, ℕ, Bool, true, false, List, [], length, Option, Some, None, refl, sym, ap, arith, inl, inr}
use Rattle.std.proofs.lemmas.Bool.{cases_Bool}
use Rattle.std.proofs.lemmas.Grind.{common_steps}
use Rattle.std.proofs.lemmas.Map.Text.{is_eq-slice_cmp}
use Rattle.std.specs.Cmp.{tied_then}
use Rattle.std.specs.Cmp.Lexicographic.{slice_cmp}
use Rattle.std.specs.Prelude.{not, ◌&&◌, ◌||◌, ◌==◌, nat_lt, if◌then◌else◌}
use Rattle.std.specs.Ordering.{is_eq, is_lt, nat_cmp, ordering_then}
use Rattle.std.specs.Str.{bytes_eq}
use Rattle.std.specs.declared.cmp.Ordering.{Ordering}
use Rattle.semver.specs.Order.{pre_cmp}
use Rattle.semver.specs.Parse.{Parts}
use Rattle.cm_match_model.proofs.Carets.{allows_is, caret_at, caret_numbers, of_release}
use Rattle.cm_match_serving.specs.contracts.series.KindOrd.TheImpl as kind_ord
use Rattle.cm_match_serving.specs.declared.series.Kind.TheVariants as kind
use Rattle.cm_match_serving.specs.Readings.{fits_read, is_below, is_in_row, is_prerelease, leading, prereleases_row, releases_row, row_cmp, row_of, unversioned_row, version_or_zero, Row}
use Rattle.cm_lemmas.proofs.Bools.{and_true}
use Rattle.cm_lemmas.proofs.Orders.{same_number}

pub before_or : (a b : ℕ) (o : Ordering) → is_lt (ordering_then (nat_cmp a b) o) ≡ ((a == b) && is_lt o || nat_lt a b)
before_or a b o = grind (arith, common_steps)

pub row_tied : (a b : Row) → is_eq (row_cmp a b) ≡ (bytes_eq a.0 b.0 && (is_eq ((kind_ord.ghosts).cmp a.1 b.1) && ((a.2 == b.2) && ((a.3 == b.3) && (a.4 == b.4)))))
row_tied a b =
    let patch = same_number a.4 b.4 in
    let minor = sym (tied_then (nat_cmp a.3 b.3) _) ∙ ap (λ t. t && is_eq (nat_cmp a.4 b.4)) (same_number a.3 b.3) ∙ ap (λ t. (a.3 == b.3) && t) patch in
    let major = sym (tied_then (nat_cmp a.2 b.2) _) ∙ ap (λ t. t && is_eq (ordering_then (nat_cmp a.3 b.3) (nat_cmp a.4 b.4))) (same_number a.2 b.2) ∙ ap (λ t. (a.2 == b.2) && t) minor in
    let sort = sym (tied_then ((kind_ord.ghosts).cmp a.1 b.1) _) ∙ ap (λ t. is_eq ((kind_ord.ghosts).cmp a.1 b.1) && t) major in
    sym (tied_then (slice_cmp nat_cmp a.0 b.0) _)
    ∙ ap (λ t. is_eq (slice_cmp nat_cmp a.0 b.0) && t) sort
    ∙ ap (λ t. t && (is_eq ((kind_ord.ghosts).cmp a.1 b.1) && ((a.2 == b.2) && ((a.3 == b.3) && (a.4 == b.4))))) (is_eq-slice_cmp a.0 b.0)

-- the numbers up to the first that is not 0
abbrev pub first : ℕ → ℕ → ℕ → ℕ
first a b c = if nat_lt 0 a then a else 0

abbrev pub second : ℕ → ℕ → ℕ → ℕ
second a b c = if nat_lt 0 a then 0 else if nat_lt 0 b then b else 0

abbrev pub third : ℕ → ℕ → ℕ → ℕ
third a b c = if nat_lt 0 a then 0 else if nat_lt 0 b then 0 else c

-- the order by numbers, where s says that the pre-release is before the other
abbrev pub before_numbers : ℕ → ℕ → ℕ → ℕ → ℕ → ℕ → Bool → Bool
before_numbers a b c x y z s = ((x == a) && (((y == b) && (((z == c) && s) || nat_lt z c)) || nat_lt y b)) || nat_lt x a

pub releases_told : (a b c x y z : ℕ) (s : Bool)
    → caret_numbers a b c x y z s ≡ (((first a b c == first x y z) && ((second a b c == second x y z) && (third a b c == third x y z))) && not (before_numbers a b c x y z s))
releases_told a b c x y z s = grind (arith, common_steps)

pub prereleases_told : (a b c x y z : ℕ) (s : Bool)
    → (caret_numbers a b c x y z s && ((a == x) && ((b == y) && (c == z)))) ≡ (((a == x) && ((b == y) && (c == z))) && not (before_numbers a b c x y z s))
prereleases_told a b c x y z s = grind (arith, common_steps)

before_told : (v w : Parts) → is_below w v ≡ before_numbers v.0 v.1 v.2 w.0 w.1 w.2 (is_lt (pre_cmp w.3 v.3))
before_told v w =
    before_or w.0 v.0 (ordering_then (nat_cmp w.1 v.1) (ordering_then (nat_cmp w.2 v.2) (pre_cmp w.3 v.3)))
    ∙ ap (λ t. ((w.0 == v.0) && t) || nat_lt w.0 v.0) (before_or w.1 v.1 (ordering_then (nat_cmp w.2 v.2) (pre_cmp w.3 v.3))
    ∙ ap (λ t. ((w.1 == v.1) && t) || nat_lt w.1 v.1) (before_or w.2 v.2 (pre_cmp w.3 v.3)))

leads : (v : Parts) → ((leading v).0 ≡ first v.0 v.1 v.2) × ((leading v).1 ≡ second v.0 v.1 v.2) × ((leading v).2 ≡ third v.0 v.1 v.2)
leads v = elim (cases_Bool (nat_lt 0 v.0)) [
  | inl y ↦ rw y (refl, refl, refl)
  | inr n ↦ elim (cases_Bool (nat_lt 0 v.1)) [
    | inl y ↦ rw (n, y) (refl, refl, refl)
    | inr k ↦ rw (n, k) (refl, refl, refl)
  ]
]

pub and_false : (b : Bool) → (b && false) ≡ false
and_false true = refl
and_false false = refl

-- rows of other kinds
kinds_apart : (a b : Row) → is_eq ((kind_ord.ghosts).cmp a.1 b.1) ≡ false → is_eq (row_cmp a b) ≡ false
kinds_apart a b h = row_tied a b ∙ ap (λ t. bytes_eq a.0 b.0 && (t && ((a.2 == b.2) && ((a.3 == b.3) && (a.4 == b.4))))) h ∙ and_false (bytes_eq a.0 b.0)

pub not_in_row : (r : Row) (v : Parts) (m : List ℕ × Option Parts) → is_eq ((kind_ord.ghosts).cmp r.1 (row_of m.0 m.1).1) ≡ false → is_in_row r v m ≡ false
not_in_row r v m h = ap (λ t. t && not (is_below (version_or_zero m.1) v)) (kinds_apart r (row_of m.0 m.1) h)

-- a name without a version is in its own row alone
pub unversioned_is : (n : List ℕ) (m : List ℕ × Option Parts) → is_in_row (unversioned_row n) (0, 0, 0, [], []) m ≡ fits_read (n, None) m
unversioned_is n (m, None) =
    ap (λ t. t && true) (row_tied (unversioned_row n) (unversioned_row m)) ∙ and_true (bytes_eq n m && true) ∙ and_true (bytes_eq n m)
unversioned_is n (m, Some w) = elim (cases_Bool (is_prerelease w)) [
  | inl y ↦ not_in_row (unversioned_row n) (0, 0, 0, [], []) (m, Some w) (rw y refl)
  | inr k ↦ not_in_row (unversioned_row n) (0, 0, 0, [], []) (m, Some w) (rw k refl)
]

release_glue : (B C L N P Q : Bool) → C ≡ (L && N) → (B && ((C && true) && (true || Q))) ≡ (((B && (true && L)) && N) || (P && false))
release_glue B C L N P Q h = grind (arith, common_steps)

prerelease_glue : (B C E F G N P : Bool) → (C && (E && (F && G))) ≡ ((E && (F && G)) && N)
    → (B && ((C && true) && (false || ((E && F && G && P) || false)))) ≡ (false || (P && ((B && (true && (E && (F && G)))) && N)))
prerelease_glue B C E F G N P h = grind (arith, common_steps)

-- whether w is before v
abbrev before_at : Parts → Parts → Bool
before_at v w = before_numbers v.0 v.1 v.2 w.0 w.1 w.2 (is_lt (pre_cmp w.3 v.3))

abbrev same_leading : Parts → Parts → Bool
same_leading v w = (first v.0 v.1 v.2 == first w.0 w.1 w.2) && ((second v.0 v.1 v.2 == second w.0 w.1 w.2) && (third v.0 v.1 v.2 == third w.0 w.1 w.2))

release_row : (m : List ℕ) (w : Parts) → (length w.3 == 0) ≡ true → row_of m (Some w) ≡ releases_row m w
release_row m w y = ap (λ t. if not t then prereleases_row m w else releases_row m w) y

prerelease_row : (m : List ℕ) (w : Parts) → (length w.3 == 0) ≡ false → row_of m (Some w) ≡ prereleases_row m w
prerelease_row m w y = ap (λ t. if not t then prereleases_row m w else releases_row m w) y

in_releases : (n m : List ℕ) (v w : Parts) → (length w.3 == 0) ≡ true
    → is_in_row (releases_row n v) v (m, Some w) ≡ ((bytes_eq n m && (true && same_leading v w)) && not (before_at v w))
in_releases n m v w y =
    let a = leads v in
    let b = leads w in
    let tied : is_eq (row_cmp (releases_row n v) (releases_row m w)) ≡ (bytes_eq n m && (true && same_leading v w)) =
    row_tied (releases_row n v) (releases_row m w)
    ∙ ap (λ t. bytes_eq n m && (true && ((t == (leading w).0) && (((leading v).1 == (leading w).1) && ((leading v).2 == (leading w).2))))) a.0
    ∙ ap (λ t. bytes_eq n m && (true && ((first v.0 v.1 v.2 == t) && (((leading v).1 == (leading w).1) && ((leading v).2 == (leading w).2))))) b.0
    ∙ ap (λ t. bytes_eq n m && (true && ((first v.0 v.1 v.2 == first w.0 w.1 w.2) && ((t == (leading w).1) && ((leading v).2 == (leading w).2))))) a.1
    ∙ ap (λ t. bytes_eq n m && (true && ((first v.0 v.1 v.2 == first w.0 w.1 w.2) && ((second v.0 v.1 v.2 == t) && ((leading v).2 == (leading w).2))))) b.1
    ∙ ap (λ t. bytes_eq n m && (true && ((first v.0 v.1 v.2 == first w.0 w.1 w.2) && ((second v.0 v.1 v.2 == second w.0 w.1 w.2) && (t == (leading w).2))))) a.2
    ∙ ap (λ t. bytes_eq n m && (true && ((first v.0 v.1 v.2 == first w.0 w.1 w.2) && ((second v.0 v.1 v.2 == second w.0 w.1 w.2) && (third v.0 v.1 v.2 == t))))) b.2 in
    ap (λ r. is_eq (row_cmp (releases_row n v) r) && not (is_below w v)) (release_row m w y)
    ∙ ap (λ t. t && not (is_below w v)) tied
    ∙ ap (λ t. (bytes_eq n m && (true && same_leading v w)) && not t) (before_told v w)

in_prereleases : (n m : List ℕ) (v w : Parts) → (length w.3 == 0) ≡ false
    → is_in_row (prereleases_row n v) v (m, Some w) ≡ ((bytes_eq n m && (true && ((v.0 == w.0) && ((v.1 == w.1) && (v.2 == w.2))))) && not (before_at v w))
in_prereleases n m v w k =
    ap (λ r. is_eq (row_cmp (prereleases_row n v) r) && not (is_below w v)) (prerelease_row m w k)
    ∙ ap (λ t. t && not (is_below w v)) (row_tied (prereleases_row n v) (prereleases_row m w))
    ∙ ap (λ t. (bytes_eq n m && (true && ((v.0 == w.0) && ((v.1 == w.1) && (v.2 == w.2))))) && not t) (before_told v w)

pub caret_is : (n : List ℕ) (v : Parts) (m : List ℕ × Option Parts)
    → fits_read (n, Some v) m ≡ (is_in_row (releases_row n v) v m || (is_prerelease v && is_in_row (prereleases_row n v) v m))
caret_is n v (m, None) =
    sym (ap (λ t. t || (is_prerelease v && is_in_row (prereleases_row n v) v (m, None))) (not_in_row (releases_row n v) v (m, None) refl)
    ∙ ap (λ t. is_prerelease v && t) (not_in_row (prereleases_row n v) v (m, None) refl) ∙ and_false (is_prerelease v))
caret_is n v (m, Some w) = elim (cases_Bool (length w.3 == 0)) [
  | inl y ↦
      let other : is_in_row (prereleases_row n v) v (m, Some w) ≡ false = not_in_row (prereleases_row n v) v (m, Some w) (ap (λ r. is_eq ((kind_ord.ghosts).cmp kind.Prereleases r.1)) (release_row m w y)) in
      ap (λ t. bytes_eq n m && t) (allows_is v w ∙ ap (λ t. (caret_at v w && true) && (t || of_release v w)) y)
      ∙ release_glue (bytes_eq n m) (caret_at v w) (same_leading v w) (not (before_at v w)) (is_prerelease v) (of_release v w) (releases_told v.0 v.1 v.2 w.0 w.1 w.2 (is_lt (pre_cmp w.3 v.3)))
      ∙ sym (ap (λ t. t || (is_prerelease v && is_in_row (prereleases_row n v) v (m, Some w))) (in_releases n m v w y)
      ∙ ap (λ t. ((bytes_eq n m && (true && same_leading v w)) && not (before_at v w)) || (is_prerelease v && t)) other)
  | inr k ↦
      let other : is_in_row (releases_row n v) v (m, Some w) ≡ false = not_in_row (releases_row n v) v (m, Some w) (ap (λ r. is_eq ((kind_ord.ghosts).cmp kind.Releases r.1)) (prerelease_row m w k)) in
      ap (λ t. bytes_eq n m && t) (allows_is v w ∙ ap (λ t. (caret_at v w && true) && (t || of_release v w)) k)
      ∙ prerelease_glue (bytes_eq n m) (caret_at v w) (v.0 == w.0) (v.1 == w.1) (v.2 == w.2) (not (before_at v w)) (is_prerelease v) (prereleases_told v.0 v.1 v.2 w.0 w.1 w.2 (is_lt (pre_cmp w.3 v.3)))
      ∙ sym (ap (λ t. t || (is_prerelease v && is_in_row (prereleases_row n v) v (m, Some w))) other
      ∙ ap (λ t. is_prerelease v && t) (in_prereleases n m v w k))
]

-- no name is in both
pub rows_apart : (n : List ℕ) (v : Parts) (m : List ℕ × Option Parts) → (is_in_row (releases_row n v) v m && is_in_row (prereleases_row n v) v m) ≡ false
rows_apart n v (m, None) = ap (λ t. t && is_in_row (prereleases_row n v) v (m, None)) (not_in_row (releases_row n v) v (m, None) refl)
rows_apart n v (m, Some w) = elim (cases_Bool (length w.3 == 0)) [
  | inl y ↦
      ap (λ t. is_in_row (releases_row n v) v (m, Some w) && t) (not_in_row (prereleases_row n v) v (m, Some w) (ap (λ r. is_eq ((kind_ord.ghosts).cmp kind.Prereleases r.1)) (release_row m w y)))
      ∙ and_false _
  | inr k ↦ ap (λ t. t && is_in_row (prereleases_row n v) v (m, Some w)) (not_in_row (releases_row n v) v (m, Some w) (ap (λ r. is_eq ((kind_ord.ghosts).cmp kind.Releases r.1)) (prerelease_row m w k)))
]
