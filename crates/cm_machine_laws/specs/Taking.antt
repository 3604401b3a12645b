-- Which handles are met in a value (CanonicalABI.md, `lift_own` and `lift_borrow`).
use Rattle.std.specs.Prelude.{◌≡◌, ℕ, List, [], ◌∷◌, Some}
use Rattle.cm_types.specs.Values.{HandleValue}
use Rattle.cm_handles.specs.Handles.{Handles, after_lend, after_release, handle_at}
use Rattle.cm_handles.specs.declared.handle.Handle.{Handle}
use Rattle.cm_handles.specs.declared.handle.HandleKind.TheVariants as kinds
use Rattle.cm_abi_model.specs.Receives.{HandleLeaf, borrowed_leaf, owned_leaf}
use Rattle.cm_abi_model.specs.Taken.{Met, content, lent, taken, text_content}

-- a handle that owns the resource of a value stands at an index
abbrev pub IsOwned : Handles → ℕ → HandleValue → Type 0
IsOwned t index v =
    (h : Handle) × (handle_at t index ≡ Some h) × (h.kind ≡ kinds.Owned) × (h.serial ≡ v.serial)

-- a handle that stands for the resource of a value, whether it owns it or not, is at an index
abbrev pub IsOf : Handles → ℕ → HandleValue → Type 0
IsOf t index v =
    (h : Handle) × (handle_at t index ≡ Some h) × (h.serial ≡ v.serial)
    × (h.resource ≡ v.resource) × (h.rep ≡ v.rep)

-- The indices that are met are those of these handles, one for one: at each that is taken stands
-- one that owns its resource, at each that is lent one that stands for it.
abbrev pub AreThere : Handles → List Met → List HandleLeaf → Type 0
AreThere t [] ls = ls ≡ []
AreThere t (text_content tags n ∷ ms) ls = AreThere t ms ls
AreThere t (content n ∷ ms) ls = AreThere t ms ls
AreThere t (taken index ∷ ms) [] = ⊥
AreThere t (taken index ∷ ms) (owned_leaf v ∷ ls) = IsOwned t index v × AreThere t ms ls
AreThere t (taken index ∷ ms) (borrowed_leaf v ∷ ls) = ⊥
AreThere t (lent index ∷ ms) [] = ⊥
AreThere t (lent index ∷ ms) (owned_leaf v ∷ ls) = ⊥
AreThere t (lent index ∷ ms) (borrowed_leaf v ∷ ls) = IsOf t index v × AreThere t ms ls

-- These are the resources that are owned by the handles that are taken, in turn: each time the
-- table is as what was met before has left it.
abbrev pub AreTaken : Handles → List Met → List HandleValue → Type 0
AreTaken t [] hs = hs ≡ []
AreTaken t (text_content tags n ∷ ms) hs = AreTaken t ms hs
AreTaken t (content n ∷ ms) hs = AreTaken t ms hs
AreTaken t (taken index ∷ ms) [] = ⊥
AreTaken t (taken index ∷ ms) (v ∷ hs) =
    IsOwned t index v × AreTaken (after_release t index) ms hs
AreTaken t (lent index ∷ ms) hs =
    ((h : Handle) × (handle_at t index ≡ Some h)) × AreTaken (after_lend t index) ms hs
