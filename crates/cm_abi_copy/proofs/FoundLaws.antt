-- What the code met, one handle after another.
use Rattle.std.proofs.Common.{◌≡◌, List, [], ◌∷◌, ◌++◌, map, refl, sym, ap, subst, ◌∙◌}
use Rattle.cm_handles.specs.Handles.{Handles, handle_at}
use Rattle.cm_abi_model.specs.Receives.{owned_leaf, borrowed_leaf}
use Rattle.cm_abi_model.specs.Taken.{Met, text_content, content, taken, lent}
use Rattle.cm_abi_load.specs.Meeting.{AreAsWanted, Meets, handles_in, met_as}
use Rattle.cm_abi_load.specs.Outcomes.{State}
use Rattle.cm_abi_copy.specs.MetLeaves.{leaf_at, leaves_found, leaves_met}

-- handles alone count
pub handles_alone : (t : Handles) (ms : List Met) → leaves_met t (handles_in ms) ≡ leaves_met t ms
handles_alone t [] = refl
handles_alone t (text_content tags n ∷ ms) = handles_alone t ms
handles_alone t (content n ∷ ms) = handles_alone t ms
handles_alone t (taken i ∷ ms) = ap (λ ls. leaf_at owned_leaf (handle_at t i) ++ ls) (handles_alone t ms)
handles_alone t (lent i ∷ ms) = ap (λ ls. leaf_at borrowed_leaf (handle_at t i) ++ ls) (handles_alone t ms)

found_are : (t : Handles) (before after : State) (ms : List Met) → before.handles ≡ [] → (m : Meets t before after ms) → after.handles ≡ m.found
found_are t before after ms none m = m.handles ∙ ap (λ hs. hs ++ m.found) none

pub found_leaves : (t : Handles) (before after : State) (ms : List Met) → before.handles ≡ [] → Meets t before after ms → leaves_found t after.handles ≡ leaves_met t ms
found_leaves t before after ms none m = ap (λ hs. leaves_met t (map met_as hs)) (found_are t before after ms none m) ∙ (ap (leaves_met t) m.same ∙ handles_alone t ms)

pub found_wanted : (t : Handles) (before after : State) (ms : List Met) → before.handles ≡ [] → Meets t before after ms → AreAsWanted t after.handles
found_wanted t before after ms none m = subst (λ hs. AreAsWanted t hs) (sym (found_are t before after ms none m)) m.wanted
