-- When a version is compatible with another, as both are read.
use Rattle.std.proofs.Common.{◌≡◌, ◌∙◌, ℕ, Bool, true, false, List, length, Result, Ok, Err, refl, ap, arith}
use Rattle.std.proofs.lemmas.Cmp.{tied_itself}
use Rattle.std.proofs.lemmas.Grind.{common_steps}
use Rattle.std.specs.Ordering.{is_lt}
use Rattle.std.specs.Prelude.{IsTrue, is_ok, not, ◌&&◌, ◌||◌, ◌==◌}
use Rattle.semver.specs.Order.{pre_cmp}
use Rattle.semver.specs.OrderLaws.{pre_total}
use Rattle.semver.specs.Parse.{Parts, version_parts}
use Rattle.semver.specs.declared.error.Error.{Error}
use Rattle.cm_types.specs.ExternNames.{is_version}
use Rattle.cm_match_model.specs.Fitting.{allows, is_compatible}
use Rattle.cm_match_model.proofs.Carets.{allows_is, caret_numbers}
use Rattle.cm_match_model.proofs.Requirements.{caret_read}

-- a version is compatible with itself
numbers_itself : (a b c : ℕ) (s L : Bool) → s ≡ false → ((caret_numbers a b c a b c s && true) && (L || (((a == a) && (b == b) && (c == c) && not L) || false))) ≡ true
numbers_itself a b c s L h = grind (arith, common_steps)

pub allows_itself : (v : Parts) → allows v v ≡ true
allows_itself v = allows_is v v ∙ numbers_itself v.0 v.1 v.2 (is_lt (pre_cmp v.3 v.3)) (length v.3 == 0) (ap is_lt (tied_itself pre_total v.3))

pub record ReadVersion (text : List ℕ) : Type 0 where
  pub parts : Parts
  pub is : version_parts text ≡ Ok parts

read_ok : (text : List ℕ) (r : Result Parts Error) → version_parts text ≡ r → is_ok r ≡ true → ReadVersion text
read_ok text (Ok p) e h = record { parts = p; is = e }
read_ok text (Err f) e h = cc h

pub version_read : (text : List ℕ) → IsTrue (is_version text) → ReadVersion text
unfolding is_version
version_read text h = read_ok text (version_parts text) refl h

pub compatible_is : (v w : List ℕ) (p q : Parts) → version_parts v ≡ Ok p → version_parts w ≡ Ok q → is_compatible v w ≡ allows p q
compatible_is v w p q h k = rw (caret_read v p h, k) refl
