-- Which exports an import may be linked to, by their names (how components are linked is this
-- project's own choice; what `^` allows is Cargo's, as the crate semver reads it).
use Rattle.std.specs.Prelude.{ℕ, Bool, false, ◌&&◌, ◌||◌, List, [], ◌∷◌, filter, Option, Some}
use Rattle.std.specs.Prelude.{None, Result, Ok}
use Rattle.std.specs.Str.{bytes_eq}
use Rattle.semver.specs.EvalViews.{matches_views}
use Rattle.semver.specs.Parse.{Held, Parts, req_of, version_parts}
use Rattle.semver.specs.declared.Op.TheVariants as op
use Rattle.semver.specs.declared.error.Error.{Error}
use Rattle.cm_types.specs.ExternNames.{NameTree, form_of, interface, name_spelling}
use Rattle.cm_match_model.specs.declared.candidates.Candidate.{Candidate}
use Rattle.cm_match_model.specs.declared.candidates.Candidate.TheVariants as candidate

-- whether a version meets a requirement, where both were read
abbrev pub is_met_by : Result (List Held) Error → Result Parts Error → Bool
is_met_by (Ok comparators) (Ok version) = matches_views comparators version
is_met_by _ _ = false

-- whether a version meets the requirement that is spelled `^` (94) and another version
abbrev pub is_compatible : List ℕ → List ℕ → Bool
is_compatible wanted have = is_met_by (req_of (94 ∷ wanted)) (version_parts have)

-- whether the caret of a version allows another, both as they were read
abbrev pub allows : Parts → Parts → Bool
allows wanted have =
    matches_views ((op.Caret, wanted.0, Some wanted.1, Some wanted.2, wanted.3) ∷ []) have

-- whether two names are those of one interface, each with a version, of which the second is
-- compatible with the first
abbrev pub is_compatible_name : Option NameTree → Option NameTree → Bool
is_compatible_name (Some (interface n p i (Some v))) (Some (interface m q j (Some w))) =
    bytes_eq (name_spelling (interface n p i None)) (name_spelling (interface m q j None))
    && is_compatible v w
is_compatible_name _ _ = false

-- whether an export of this name may serve an import of that one: the names are the same text, or
-- differ in their versions alone, which are compatible
abbrev pub fits : List ℕ → List ℕ → Bool
fits wanted have = bytes_eq wanted have || is_compatible_name (form_of wanted) (form_of have)

-- an export: its component, its number there, and its name
pub record NamedExport : Type 0 where
  pub component : ℕ
  pub number : ℕ
  pub name : List ℕ

abbrev pub named_export : ℕ → ℕ → List ℕ → NamedExport
named_export component number name =
    record { component = component; number = number; name = name }

-- the exports among these that may serve an import of this name, in order
abbrev pub candidates : List NamedExport → List ℕ → List NamedExport
candidates exports wanted = filter (λ e. fits wanted e.name) exports

-- none of the candidates, the only one, or more than one
abbrev pub only : List NamedExport → Candidate
only [] = candidate.None
only (e ∷ []) = candidate.One e.component e.number
only (e ∷ f ∷ es) = candidate.Several

-- the candidates among two lists of exports, of which these are the candidates
abbrev pub and_also : Candidate → Candidate → Candidate
and_also candidate.None other = other
and_also first candidate.None = first
and_also _ _ = candidate.Several
