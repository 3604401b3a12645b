-- Valid components, one more at a time, and sets of them.
use Rattle.std.proofs.Common.{◌≡◌, ℕ, zero, suc, List, [], ◌∷◌, ◌++◌, length, Option, Some, None, sym, subst, ap, refl, ◌∙◌}
use Rattle.std.proofs.lemmas.List.{map-append}
use Rattle.std.proofs.lemmas.Option.{slice_get-map}
use Rattle.std.specs.Prelude.{slice_get, take}
use Rattle.std.specs.List.{AllByRecursion}
use Rattle.std.specs.Option.{option_map, option_map_or}
use Rattle.cm_binary_model.specs.Trees.{SectionTree}
use Rattle.cm_validate.specs.cm_validate_spaces.Checked.{sections_in}
use Rattle.cm_validate.specs.cm_validate_spaces.declared.checked.Checked.{Checked}
use Rattle.cm_validate_model.specs.Spaces.{Spaces, spaces_of}
use Rattle.cm_stubs.specs.Stubs.{export_count, set_of}
use Rattle.cm_stubs.specs.Sets.{checked_set, sections_of}
use Rattle.cm_lemmas.proofs.Lists.{map_length}
use Rattle.cm_lemmas.proofs.Options.{some_is}

pub all_next : {A : Type 0} (P : A → Type 0) (xs : List A) (i : ℕ) (x : A) → slice_get xs i ≡ Some x → AllByRecursion P (take i xs) → P x → AllByRecursion P (take (suc i) xs)
all_next P [] i x at all is = absurd (cc)
all_next P (y ∷ xs) zero x at all is = (subst P (sym (some_is y x at)) is, tt)
all_next P (y ∷ xs) (suc i) x at all is = (all.0, all_next P xs i x at all.1 is)

-- the set of a component before others, and behind others
pub set_before : (all rest : List Checked) (c : Checked) (stub : List SectionTree) → all ≡ (c ∷ []) ++ rest → sections_in c ≡ stub → checked_set all ≡ set_of (stub ∷ sections_of rest)
set_before all rest c stub is held = ap checked_set is ∙ ap (λ s. set_of (s ∷ sections_of rest)) held

pub set_behind : (all front : List Checked) (c : Checked) (stub : List SectionTree) → all ≡ front ++ c ∷ [] → sections_in c ≡ stub → checked_set all ≡ set_of (sections_of front ++ stub ∷ [])
set_behind all front c stub is held =
    ap checked_set is
    ∙ (ap set_of (map-append sections_in front (c ∷ []))
    ∙ ap (λ s. set_of (sections_of front ++ s ∷ [])) held)

-- how many components there are, and how many exports one of them has
pub sections_count : (cs : List Checked) → length (sections_of cs) ≡ length cs
sections_count cs = map_length sections_in cs

count_of : (o : Option Checked) → option_map_or (λ (s : Spaces). length s.exports) (option_map spaces_of (option_map sections_in o)) 0 ≡ option_map_or (λ (c : Checked). length (spaces_of (sections_in c)).exports) o 0
count_of None = refl
count_of (Some c) = refl

pub exports_at : (cs : List Checked) (k : ℕ) → export_count (checked_set cs).spaces k ≡ option_map_or (λ (c : Checked). length (spaces_of (sections_in c)).exports) (slice_get cs k) 0
exports_at cs k =
    ap (λ o. option_map_or (λ (s : Spaces). length s.exports) o 0)
    (slice_get-map spaces_of (sections_of cs) k ∙ ap (option_map spaces_of) (slice_get-map sections_in cs k))
    ∙ count_of (slice_get cs k)

pub count_some : (cs : List Checked) (k : ℕ) (c : Checked) → slice_get cs k ≡ Some c → export_count (checked_set cs).spaces k ≡ length (spaces_of (sections_in c)).exports
count_some cs k c at = exports_at cs k ∙ ap (λ o. option_map_or (λ (x : Checked). length (spaces_of (sections_in x)).exports) o 0) at

pub count_none : (cs : List Checked) (k : ℕ) → slice_get cs k ≡ None → export_count (checked_set cs).spaces k ≡ 0
count_none cs k at = exports_at cs k ∙ ap (λ o. option_map_or (λ (x : Checked). length (spaces_of (sections_in x)).exports) o 0) at
