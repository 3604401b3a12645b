-- What a name is read as to find what fits it, and the series that an export belongs to.
use Rattle.std.specs.Prelude.{◌≡◌, ℕ, Bool, true, false, ◌&&◌, ◌==◌, List, []}
use Rattle.std.specs.Prelude.{Option, Some, None}
use Rattle.std.specs.Prelude.{filter, if◌then◌else◌, length, nat_lt, not}
use Rattle.std.specs.Option.{option_map_or}
use Rattle.std.specs.Cmp.Lexicographic.{slice_cmp}
use Rattle.std.specs.Ordering.{is_eq, is_lt, nat_cmp, ordering_then}
use Rattle.std.specs.Result.{result_ok}
use Rattle.std.specs.Str.{bytes_eq}
use Rattle.std.specs.String.{string_bytes}
use Rattle.std.specs.declared.cmp.Ordering.{Ordering}
use Rattle.semver.specs.Identifiers.{parts_of}
use Rattle.semver.specs.Order.{pre_cmp}
use Rattle.semver.specs.Parse.{Parts, version_parts}
use Rattle.cm_types.specs.ExternNames.{HasLabels, NameTree, form_of, interface, name_spelling}
use Rattle.cm_match_serving.specs.contracts.series.KindOrd.TheImpl as kind_ord
use Rattle.cm_match_serving.specs.contracts.series.SeriesOrd.TheImpl as series_ord
use Rattle.cm_match_model.specs.Fitting.{NamedExport, allows, only}
use Rattle.cm_match_model.specs.declared.candidates.Candidate.{Candidate}
use Rattle.cm_match_serving.specs.declared.readings.Versioned.{Versioned}
use Rattle.cm_match_serving.specs.declared.series.Kind.{Kind}
use Rattle.cm_match_serving.specs.declared.series.Kind.TheVariants as kind
use Rattle.cm_match_serving.specs.declared.series.Series.{Series}

-- ---- names

-- a name without its version, and its version, if it has one
abbrev pub tree_read : NameTree → List ℕ × Option Parts
tree_read (interface n p i (Some v)) =
    (name_spelling (interface n p i None), result_ok (version_parts v))
tree_read t = (name_spelling t, None)

abbrev pub name_read : List ℕ → List ℕ × Option Parts
name_read text = option_map_or tree_read (form_of text) (text, None)

-- a name has a form, whose parts are labels and a version, and is spelled so
pub record HasForm (name : List ℕ) : Type 0 where
  pub tree : NameTree
  pub read : form_of name ≡ Some tree
  pub spelled : name_spelling tree ≡ name
  pub labels : HasLabels tree

-- what the code has read of a name: nothing, where it has no version
abbrev pub reading_view : List ℕ → Option Versioned → List ℕ × Option Parts
reading_view name None = (name, None)
reading_view name (Some v) = (string_bytes v.name, Some (parts_of v.version))

-- ---- versions

-- the order of versions without their build metadata (Semantic Versioning 2.0.0, 11)
abbrev pub parts_cmp : Parts → Parts → Ordering
parts_cmp a b =
    ordering_then (nat_cmp a.0 b.0) (ordering_then (nat_cmp a.1 b.1)
    (ordering_then (nat_cmp a.2 b.2) (pre_cmp a.3 b.3)))

-- whether a version is before another
abbrev pub is_below : Parts → Parts → Bool
is_below a b = is_lt (parts_cmp a b)

-- whether a version has a pre-release
abbrev pub is_prerelease : Parts → Bool
is_prerelease v = not (length v.3 == 0)

-- ---- series

-- names of which each fits what asks for it, or for an earlier version: a name without its version,
-- of what kind they are, and three numbers
abbrev pub Row : Type 0
Row = List ℕ × Kind × ℕ × ℕ × ℕ

-- the numbers of a version up to the first that is not 0
abbrev pub leading : Parts → ℕ × ℕ × ℕ
leading v =
    if nat_lt 0 v.0 then (v.0, 0, 0) else if nat_lt 0 v.1 then (0, v.1, 0) else (0, 0, v.2)

-- whether names of a kind have versions
abbrev pub is_versioned : Kind → Bool
is_versioned kind.Unversioned = false
is_versioned _ = true

-- the name without a version
abbrev pub unversioned_row : List ℕ → Row
unversioned_row name = (name, kind.Unversioned, 0, 0, 0)

-- the releases that are compatible with this one
abbrev pub releases_row : List ℕ → Parts → Row
releases_row name v =
    let numbers = leading v in (name, kind.Releases, numbers.0, numbers.1, numbers.2)

-- the pre-releases of one release
abbrev pub prereleases_row : List ℕ → Parts → Row
prereleases_row name v = (name, kind.Prereleases, v.0, v.1, v.2)

abbrev pub row_of : List ℕ → Option Parts → Row
row_of name None = unversioned_row name
row_of name (Some v) = if is_prerelease v then prereleases_row name v else releases_row name v

-- the version of a name, and 0.0.0 where it has none
abbrev pub version_or_zero : Option Parts → Parts
version_or_zero None = (0, 0, 0, [], [])
version_or_zero (Some v) = v

-- what the code's series stands for
abbrev pub series_view : Series → Row
series_view s = (string_bytes s.name, s.kind, s.major, s.minor, s.patch)

-- the order of rows, by which they are found
abbrev pub row_cmp : Row → Row → Ordering
row_cmp a b =
    ordering_then (slice_cmp nat_cmp a.0 b.0) (ordering_then ((kind_ord.ghosts).cmp a.1 b.1)
    (ordering_then (nat_cmp a.2 b.2) (ordering_then (nat_cmp a.3 b.3) (nat_cmp a.4 b.4))))

-- the order of the code's series
abbrev pub series_order : Series → Series → Ordering
series_order = (series_ord.ghosts).cmp

-- whether a name is in a row, in a version that is not before this one
abbrev pub is_in_row : Row → Parts → List ℕ × Option Parts → Bool
is_in_row row least name =
    is_eq (row_cmp row (row_of name.0 name.1)) && not (is_below (version_or_zero name.1) least)

-- whether one name fits the other, as both were read
abbrev pub fits_read : List ℕ × Option Parts → List ℕ × Option Parts → Bool
fits_read (n, None) (m, None) = bytes_eq n m
fits_read (n, Some v) (m, Some w) = bytes_eq n m && allows v w
fits_read _ _ = false

-- those of these exports that have a name, which has no version
abbrev pub only_named : List ℕ → List NamedExport → Candidate
only_named name exports = only (filter (λ e. fits_read (name, None) (name_read e.name)) exports)
