-- What components tell of their resources.
use Rattle.std.specs.Prelude.{ℕ, List, Option, Some, None}
use Rattle.cm_types.specs.declared.resource.ResourceId.{ResourceId}
use Rattle.cm_match_model.specs.declared.component.Link.{Link}
use Rattle.cm_match_serving.specs.declared.components.Source.{Source}
use Rattle.cm_match_serving.specs.declared.components.Source.TheVariants as from

-- where a resource comes from, if there is one: none where it is defined, else the import and the
-- name under which that brings it; the link of an import of a component; and the number of the
-- resource that an export has under a name
pub record Told : Type 0 where
  pub source : ResourceId → Option (Option (ℕ × List ℕ))
  pub link : ℕ → ℕ → Option Link
  pub member : Link → List ℕ → Option ℕ

abbrev pub source_view : Source → Option (ℕ × List ℕ)
source_view from.Defined = None
source_view (from.Brought import name) = Some (import, name.now)
