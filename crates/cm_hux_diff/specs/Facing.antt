-- Which imports and exports of two signatures face each other (how components are linked is this
-- project's own choice: what fits a name is `fits` of cm_match_model).
use Rattle.std.specs.Prelude.{ℕ, ◌+◌, ◌==◌, Bool, true, false, ◌&&◌, ◌||◌, not, List, [], ◌∷◌, ◌++◌}
use Rattle.std.specs.Prelude.{if◌then◌else◌, Option, Some, None, filter, map}
use Rattle.std.specs.List.{list_any}
use Rattle.cm_types.specs.Signatures.{NamedExtern}
use Rattle.cm_match_model.specs.Fitting.{NamedExport, candidates, only}
use Rattle.cm_match_model.specs.Ranges.{exports_named}
use Rattle.cm_match_model.specs.declared.candidates.Candidate.{Candidate}
use Rattle.cm_match_model.specs.declared.candidates.Candidate.TheVariants as candidate
use Rattle.cm_wit_conforms.specs.Places.{place_in}
use Rattle.cm_hux_diff.specs.declared.facing.Face.{Face}
use Rattle.cm_hux_diff.specs.declared.facing.Face.TheVariants as face

abbrev pub names : List NamedExtern → List (List ℕ)
names externs = map (λ e. e.name) externs

-- what fits this name among these: nothing, one alone, or several
abbrev pub found : List (List ℕ) → List ℕ → Candidate
found texts wanted = only (candidates (exports_named 0 texts) wanted)

abbrev pub is_none : Candidate → Bool
is_none candidate.None = true
is_none _ = false

abbrev pub is_one : Candidate → Bool
is_one (candidate.One component place) = true
is_one _ = false

abbrev pub is_several : Candidate → Bool
is_several candidate.Several = true
is_several _ = false

abbrev pub face_of : Candidate → Face
face_of candidate.None = face.Nothing
face_of (candidate.One component place) = face.One place
face_of candidate.Several = face.Several

-- ---- users

-- Nobody can import an export of the old one where two of its exports fit, or where its host
-- exports one that does, because the old one imports it.
abbrev pub is_left_out : List (List ℕ) → List (List ℕ) → List ℕ → Bool
is_left_out imports exports name =
    is_several (found exports name) || not (is_none (found imports name))

-- Who imports an export of the old one, with these imports and exports, by its name wants the only
-- one of those that the new one offers that fits.
abbrev pub user_face : List (List ℕ) → List (List ℕ) → List (List ℕ) → List ℕ → Face
user_face imports exports offered name =
    if is_left_out imports exports name then face.LeftOut else face_of (found offered name)

-- An import of the old one, which its users import from its host too, is exported by the new one
-- now, and was not by the old one: both fit it then.
abbrev pub is_hosted : List (List ℕ) → List (List ℕ) → List ℕ → Bool
is_hosted exports offered name =
    not (is_none (found offered name)) && is_none (found exports name)

-- the place of such an import, and of all of these, counted from n on
abbrev pub hosted_at : List (List ℕ) → List (List ℕ) → ℕ → List ℕ → List ℕ
hosted_at exports offered n x = if is_hosted exports offered x then n ∷ [] else []

abbrev pub hosted_from : List (List ℕ) → List (List ℕ) → ℕ → List (List ℕ) → List ℕ
hosted_from exports offered n [] = []
hosted_from exports offered n (x ∷ xs) =
    hosted_at exports offered n x ++ hosted_from exports offered (n + 1) xs

-- ---- hosts

-- Of several versions of one interface that are compatible, the greatest: nothing else fits its
-- name.
abbrev pub is_greatest : List (List ℕ) → NamedExport → Bool
is_greatest texts e = is_one (found texts e.name)

-- the greatest of all series of versions, and what has no version
abbrev pub greatest : List (List ℕ) → List NamedExport
greatest texts = filter (is_greatest texts) (exports_named 0 texts)

abbrev pub one_or_several : Candidate → Face
one_or_several (candidate.One component place) = face.One place
one_or_several _ = face.Several

-- what fits, given that it is nothing, one or several, or of several the greatest
abbrev pub greatest_face : List (List ℕ) → List ℕ → Candidate → Face
greatest_face texts wanted candidate.None = face.Nothing
greatest_face texts wanted (candidate.One component place) = face.One place
greatest_face texts wanted candidate.Several =
    one_or_several (only (candidates (greatest texts) wanted))

-- what fits a name among these, or of several the greatest
abbrev pub best_face : List (List ℕ) → List ℕ → Face
best_face texts wanted = greatest_face texts wanted (found texts wanted)

-- A host exports what the old one imports: what has the same name, or else what fits.
abbrev pub host_face_by : List (List ℕ) → List ℕ → Option ℕ → Face
host_face_by texts wanted (Some place) = face.One place
host_face_by texts wanted None = best_face texts wanted

abbrev pub host_face : List (List ℕ) → List ℕ → Face
host_face texts wanted = host_face_by texts wanted (place_in texts wanted)

-- ---- what may clash

abbrev pub is_at : ℕ → Face → Bool
is_at place (face.One at) = place == at
is_at place _ = false

-- An export of the new one, at a place, meets one of the old one's: that fits its name, or it is
-- what fits the other's name, or of several the greatest. Whoever links beside the old one may
-- export what meets none.
abbrev pub is_met : List (List ℕ) → List (List ℕ) → ℕ → List ℕ → Bool
is_met exports offered place name =
    not (is_none (found exports name)) || list_any (is_at place) (map (best_face offered) exports)

-- whether each of these does, counted from n on
abbrev pub met_from : List (List ℕ) → List (List ℕ) → ℕ → List (List ℕ) → List Bool
met_from exports offered n [] = []
met_from exports offered n (x ∷ xs) =
    is_met exports offered n x ∷ met_from exports offered (n + 1) xs
