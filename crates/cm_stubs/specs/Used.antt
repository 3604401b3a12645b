-- Which exports the plan of a linked set uses (how components are linked is this project's own
-- choice).
use Rattle.std.specs.Prelude.{◌≡◌, ℕ, ◌<◌, Bool, true, false, List, length, slice_index_or}
use Rattle.std.specs.List.{Contains}
use Rattle.cm_match_model.specs.declared.plan.PlanLine.{PlanLine}

-- an import is linked to this export of this component
pub record IsUsed (plan : List PlanLine) (provider export : ℕ) : Type 0 where
  pub line : PlanLine
  pub planned : Contains plan line
  pub of_provider : line.provider ≡ provider
  pub to_export : line.export ≡ export

-- each of so many exports of a component is used
abbrev pub AreUsed : List PlanLine → ℕ → ℕ → Type 0
AreUsed plan provider count = (e : ℕ) → e < count → IsUsed plan provider e

-- there are so many marks, and what is marked is used
pub record AreMarks (plan : List PlanLine) (provider count : ℕ) (marks : List Bool) : Type 0 where
  pub size : length marks ≡ count
  pub sound : (e : ℕ) → slice_index_or marks e false ≡ true → IsUsed plan provider e
