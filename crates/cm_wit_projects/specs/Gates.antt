-- Which gates may stand before a thing, and what they let through (WIT.md, "Feature Gates"; that
-- `@deprecated` stands only beside another gate is wit-parser's rule).
use Rattle.std.specs.Prelude.{ℕ, Bool, true, false, ◌&&◌, ◌||◌, not, List, [], ◌∷◌, ◌++◌, Option}
use Rattle.std.specs.Prelude.{if◌then◌else◌}
use Rattle.std.specs.List.{list_all, list_any}
use Rattle.std.specs.Option.{option_map_or}
use Rattle.std.specs.Result.{result_ok}
use Rattle.std.specs.Ordering.{is_lt, nat_cmp, ordering_then}
use Rattle.std.specs.Str.{bytes_eq}
use Rattle.std.specs.declared.cmp.Ordering.{Ordering}
use Rattle.semver.specs.Order.{pre_cmp}
use Rattle.semver.specs.Parse.{Parts, version_parts}
use Rattle.cm_wit_projects_reading.specs.Trees.{Gate, since, unstable, deprecated, Placed}

-- ---- what is there

-- what is unstable is there where its feature is wanted; the other gates take nothing away
abbrev pub is_open : List (List ℕ) → Gate → Bool
is_open features (since v) = true
is_open features (unstable f) = list_any (bytes_eq f) features
is_open features (deprecated v) = true

abbrev pub is_there : List (List ℕ) → List (Placed Gate) → Bool
is_there features gates = list_all (λ g. is_open features g.1) gates

-- ---- which gates may stand

abbrev pub is_deprecated : Gate → Bool
is_deprecated (since v) = false
is_deprecated (unstable f) = false
is_deprecated (deprecated v) = true

-- one of the other two, which say how a thing came to be there
abbrev pub is_origin : Gate → Bool
is_origin g = not (is_deprecated g)

-- the order of versions without their build metadata (Semantic Versioning 2.0.0, 11)
abbrev pub parts_cmp : Parts → Parts → Ordering
parts_cmp a b =
    ordering_then (nat_cmp a.0 b.0) (ordering_then (nat_cmp a.1 b.1)
    (ordering_then (nat_cmp a.2 b.2) (pre_cmp a.3 b.3)))

-- whether a version that is read is there, and not below the text of another
abbrev pub is_from : Option Parts → List ℕ → Bool
is_from version text =
    option_map_or (λ p. option_map_or (λ q. not (is_lt (parts_cmp p q)))
    (result_ok (version_parts text)) false) version false

-- `@since` wants a package with a version that is not below the one that it names
abbrev pub is_reached : Option Parts → Gate → Bool
is_reached version (since v) = is_from version v
is_reached version (unstable f) = true
is_reached version (deprecated v) = true

-- there is one origin at most, and one `@deprecated`
abbrev pub is_new_kind : List Gate → Gate → Bool
is_new_kind before g =
    if is_deprecated g then not (list_any is_deprecated before)
    else not (list_any is_origin before)

-- `@deprecated` stands only where there is an origin
abbrev pub is_founded : Bool → Gate → Bool
is_founded has_origin g = is_origin g || has_origin

abbrev pub may_stand : Option Parts → Bool → List Gate → Gate → Bool
may_stand version has_origin before g =
    is_reached version g && (is_new_kind before g && is_founded has_origin g)

-- the places of gates, behind these, that may not stand there
abbrev pub bad_from : Option Parts → Bool → List Gate → List (Placed Gate) → List ℕ
bad_from version has_origin before [] = []
bad_from version has_origin before (g ∷ gs) =
    if may_stand version has_origin before g.1
    then bad_from version has_origin (before ++ g.1 ∷ []) gs
    else g.0 ∷ bad_from version has_origin (before ++ g.1 ∷ []) gs

-- those of the gates of one thing, in a package that has this version, if it has one
abbrev pub bad_gates : Option Parts → List (Placed Gate) → List ℕ
bad_gates version gs = bad_from version (list_any (λ g. is_origin g.1) gs) [] gs
