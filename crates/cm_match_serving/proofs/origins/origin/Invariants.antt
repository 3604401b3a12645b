use Rattle.std.proofs.Common.{◌≡◌, ◌+◌, ◌≤◌, true, List, is_some}
use Rattle.cm_validate_model.specs.Spaces.{Spaces}
use Rattle.cm_match_model.specs.Origins.{AreOrigins, LeadEarlier, Links, Table, definition_of}
use Rattle.cm_match_serving.specs.ToldSets.{Describes}
use Rattle.cm_match_serving.proofs.origins.origin.Given as goal

-- it is what the resource is in the end, and as many components before it as links were followed
abbrev pub invariant-loop-step : goal.invariant-loop-step
invariant-loop-step g l =
    (set : List Spaces) (links : Links) (table : Table) → Describes (g.C.Components.told l.components) set links → LeadEarlier links → AreOrigins set links table
    → (table l.fn.resource ≡ table l.origin) × (is_some (definition_of set l.origin) ≡ true) × (l.origin.component + l._step ≤ l.fn.resource.component)
