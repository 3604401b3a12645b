-- Tables by their instances.
use Rattle.std.proofs.Common.{◌≡◌, ℕ, suc, ◌<◌, List, [], ◌∷◌, length, map, get_or, refl, ap, ◌∙◌}
use Rattle.std.specs.Prelude.{slice_set}
use Rattle.std.proofs.lemmas.List.{map-set, get_or-map, length-set}
use Rattle.cm_handles.specs.Handles.{TableState, no_handles}
use Rattle.cm_machine_model.specs.State.{table_at}
use Rattle.cm_machine_parts.specs.States.{handles_in}
use Rattle.cm_machine_model.proofs.StateLaws.{table_is}

pub handles_set : (ts : List TableState) (i : ℕ) (t : TableState) → handles_in (slice_set ts i t) ≡ slice_set (handles_in ts) i t.handles
handles_set ts i t = map-set (λ (x : TableState). x.handles) ts i t

pub length_handles : (ts : List TableState) → length (handles_in ts) ≡ length ts
length_handles [] = refl
length_handles (t ∷ ts) = ap suc (length_handles ts)

-- the handles of the table that stands there
pub table_in : (ts : List TableState) (i : ℕ) (d : TableState) → i < length ts → table_at (handles_in ts) i ≡ (get_or ts i d).handles
table_in ts i d lt = table_is (handles_in ts) i ∙ get_or-map (λ (x : TableState). x.handles) ts i d no_handles lt
