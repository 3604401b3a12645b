-- The candidates of the imports of a set, by what they see and by their names (how components are
-- linked is this project's own choice).
use Rattle.std.specs.Prelude.{◌≡◌, ◌+◌, ℕ, List, [], ◌∷◌, slice_get}
use Rattle.std.specs.Option.{option_map}
use Rattle.std.specs.declared.alloc.Global.{Global}
use Rattle.std.specs.declared.vec.Vec.{Vec}
use Rattle.cm_match_model.specs.Fitting.{NamedExport, only}
use Rattle.cm_match_model.specs.declared.candidates.Candidate.{Candidate}
use Rattle.cm_match_model.specs.declared.sight.Choices.{Choices}
use Rattle.cm_types.specs.Signatures.{NamedExtern}
use Rattle.cm_validate_model.specs.Spaces.{Spaces}
use Rattle.cm_validate_spaces.specs.declared.checked.Checked.{Checked}
use Rattle.cm_match_model.specs.Imports.{LinkSet, candidates}
use Rattle.cm_match_model.specs.Sights.{group_of, seen_before}
use Rattle.cm_match_serving.specs.Sets.{spaces_of_all}

-- what is told of each of these by its number, from this one on
abbrev pub each_from : {A B : Type 0} → (ℕ → A → B) → ℕ → List A → List B
each_from tell number [] = []
each_from tell number (x ∷ xs) = tell number x ∷ each_from tell (number + 1) xs

-- those of the imports of a component: none, the only one, or more than one
abbrev pub candidates_from : LinkSet → ℕ → List NamedExtern → List Candidate
candidates_from set component imports =
    each_from (λ number x. only (candidates set component number x)) 0 imports

abbrev pub candidates_in : LinkSet → ℕ → Spaces → List Candidate
candidates_in set component s = candidates_from set component s.imports

-- a list for each component of a set, the candidates of its imports
abbrev pub AreCandidates : LinkSet → List (Vec Candidate Global) → Type 0
AreCandidates set rows = (component : ℕ) → option_map (λ row. row.items) (slice_get rows component)
    ≡ option_map (candidates_in set component) (slice_get set.spaces component)

-- the exports that the imports of a component see, where no link is chosen for them
abbrev pub seen_exports : List Checked → Choices → ℕ → List NamedExport
seen_exports cs choices component =
    seen_before (spaces_of_all cs) choices.places.items (group_of choices.places.items component)
