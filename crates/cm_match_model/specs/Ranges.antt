-- What the caret of a version allows, in the words of Cargo's table: from the version on, and below
-- the next one with another first number that is not 0.
use Rattle.std.specs.Prelude.{ℕ, ◌+◌, Bool, ◌&&◌, ◌||◌, ◌==◌, List, [], ◌∷◌, nat_lt}
use Rattle.std.specs.Prelude.{if◌then◌else◌, length, not}
use Rattle.std.specs.Ordering.{is_lt}
use Rattle.semver.specs.Order.{pre_cmp}
use Rattle.semver.specs.Parse.{Parts}
use Rattle.cm_match_model.specs.Fitting.{NamedExport, named_export}

-- whether the numbers of a version come before these
abbrev pub comes_before : Parts → ℕ × ℕ × ℕ → Bool
comes_before v n =
    nat_lt v.0 n.0 || ((v.0 == n.0) && (nat_lt v.1 n.1 || ((v.1 == n.1) && nat_lt v.2 n.2)))

-- the numbers of a version
abbrev pub numbers : Parts → ℕ × ℕ × ℕ
numbers v = (v.0, v.1, v.2)

-- the least numbers above those of a version with another first number that is not 0
abbrev pub next_incompatible : Parts → ℕ × ℕ × ℕ
next_incompatible v =
    if nat_lt 0 v.0 then (v.0 + 1, 0, 0)
    else if nat_lt 0 v.1 then (0, v.1 + 1, 0) else (0, 0, v.2 + 1)

-- whether they are versions of one release, both before it, and the second is not before the first
abbrev pub is_later_prerelease : Parts → Parts → Bool
is_later_prerelease v w =
    (v.0 == w.0) && (v.1 == w.1) && (v.2 == w.2) && not (length v.3 == 0)
    && not (is_lt (pre_cmp w.3 v.3))

-- exports of component 0 with these names, numbered from here on
abbrev pub exports_named : ℕ → List (List ℕ) → List NamedExport
exports_named number [] = []
exports_named number (n ∷ ns) = named_export 0 number n ∷ exports_named (number + 1) ns
