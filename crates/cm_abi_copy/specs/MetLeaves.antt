-- The handles of a value by what a reader met of it (CanonicalABI.md, "Lifting" of own and borrow).
use Rattle.std.specs.Prelude.{List, [], ◌∷◌, ◌++◌, map, Option, Some, None}
use Rattle.cm_types.specs.Values.{HandleValue}
use Rattle.cm_handles.specs.Handles.{Handles, handle_at}
use Rattle.cm_handles.specs.declared.handle.Handle.{Handle}
use Rattle.cm_abi_model.specs.HandleLeaves.{stands_for}
use Rattle.cm_abi_model.specs.Receives.{HandleLeaf, owned_leaf, borrowed_leaf}
use Rattle.cm_abi_model.specs.Taken.{Met, text_content, content, taken, lent}
use Rattle.cm_abi_load.specs.declared.progress.MetHandle.{MetHandle}
use Rattle.cm_abi_load.specs.Meeting.{met_as}

-- what stands at an index, as a handle of a value of this kind; none where nothing stands there
abbrev pub leaf_at : (HandleValue → HandleLeaf) → Option Handle → List HandleLeaf
leaf_at kind None = []
leaf_at kind (Some h) = kind (stands_for h) ∷ []

-- the handles of a table among what was met, in order: those to be owned, and those to be borrowed
abbrev pub leaves_met : Handles → List Met → List HandleLeaf
leaves_met t [] = []
leaves_met t (text_content tags n ∷ ms) = leaves_met t ms
leaves_met t (content n ∷ ms) = leaves_met t ms
leaves_met t (taken i ∷ ms) = leaf_at owned_leaf (handle_at t i) ++ leaves_met t ms
leaves_met t (lent i ∷ ms) = leaf_at borrowed_leaf (handle_at t i) ++ leaves_met t ms

-- the handles of a table among those that the code met
abbrev pub leaves_found : Handles → List MetHandle → List HandleLeaf
leaves_found t ms = leaves_met t (map met_as ms)
