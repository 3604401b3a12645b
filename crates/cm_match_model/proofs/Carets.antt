-- What the caret of a version allows, by its numbers.
use Rattle.std.proofs.Common.{◌≡◌, ℕ, Bool, true, false, length, Some, refl, ap}
use Rattle.std.specs.Prelude.{not, ◌&&◌, ◌||◌, ◌==◌, nat_lt, if◌then◌else◌}
use Rattle.std.specs.Ordering.{is_ge, is_lt}
use Rattle.std.specs.declared.cmp.Ordering.{Ordering}
use Rattle.std.specs.declared.cmp.Ordering.TheVariants.{Less, Equal, Greater}
use Rattle.semver.specs.EvalViews.{view_caret}
use Rattle.semver.specs.Order.{pre_cmp}
use Rattle.semver.specs.Parse.{Parts}
use Rattle.semver.specs.declared.Op.TheVariants as op
use Rattle.cm_match_model.specs.Fitting.{allows}

ge_lt : (o : Ordering) → is_ge o ≡ not (is_lt o)
ge_lt Less = refl
ge_lt Equal = refl
ge_lt Greater = refl

-- the caret by numbers, where s says that the pre-release is before the other
abbrev pub caret_numbers : ℕ → ℕ → ℕ → ℕ → ℕ → ℕ → Bool → Bool
caret_numbers a b c x y z s = (x == a) && (if nat_lt 0 a then (if y == b then (if z == c then not s else nat_lt c z) else nat_lt b y) else if nat_lt 0 b then (if y == b then (if z == c then not s else nat_lt c z) else false) else (y == b) && (z == c) && not s)

-- the numbers of the caret of a version
caret_told : (v w : Parts) → view_caret (op.Caret, v.0, Some v.1, Some v.2, v.3) w ≡ caret_numbers v.0 v.1 v.2 w.0 w.1 w.2 (is_lt (pre_cmp w.3 v.3))
caret_told v w = rw (ge_lt (pre_cmp w.3 v.3)) refl

-- the numbers of the caret of v at w
abbrev pub caret_at : Parts → Parts → Bool
caret_at v w = caret_numbers v.0 v.1 v.2 w.0 w.1 w.2 (is_lt (pre_cmp w.3 v.3))

-- whether a pre-release w is one of the release of v
abbrev pub of_release : Parts → Parts → Bool
of_release v w = ((v.0 == w.0) && (v.1 == w.1) && (v.2 == w.2) && not (length v.3 == 0)) || false

pub allows_is : (v w : Parts) → allows v w ≡ ((caret_at v w && true) && ((length w.3 == 0) || of_release v w))
allows_is v w = ap (λ t. (t && true) && ((length w.3 == 0) || of_release v w)) (caret_told v w)
