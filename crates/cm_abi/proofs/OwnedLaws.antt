-- The handles that were taken out of a table are those of a value that are to be owned.
use Rattle.std.proofs.Common.{◌≡◌, List, [], ◌∷◌, ◌++◌, map, Option, Some, None, refl, sym, ap, ◌∙◌}
use Rattle.cm_handles.specs.Handles.{Handles, handle_at}
use Rattle.cm_handles.specs.declared.handle.Handle.{Handle}
use Rattle.cm_abi_model.specs.Receives.{HandleLeaf, owned_leaf, borrowed_leaf}
use Rattle.cm_abi_model.specs.Taken.{Met, text_content, content, taken, lent, taken_of}
use Rattle.cm_abi_copy.specs.MetLeaves.{leaf_at, leaves_met}
use Rattle.cm_abi_model.specs.HandleLeaves.{stands_for}
use Rattle.cm_abi_model.specs.HandleLeaves.{owned_in}

-- a handle that is lent is none to be owned
lent_none : (o : Option Handle) (leaves : List HandleLeaf) → owned_in (leaf_at borrowed_leaf o ++ leaves) ≡ owned_in leaves
lent_none None leaves = refl
lent_none (Some h) leaves = refl

taken_one : (o : Option Handle) (h : Handle) (leaves : List HandleLeaf) → Some h ≡ o → owned_in (leaf_at owned_leaf o ++ leaves) ≡ stands_for h ∷ owned_in leaves
taken_one o h leaves is = rw (sym is) refl

pub owned_are_taken : (t : Handles) (ms : List Met) (hs : List Handle) → map Some hs ≡ map (handle_at t) (taken_of ms) → map stands_for hs ≡ owned_in (leaves_met t ms)
owned_are_taken t [] [] e = refl
owned_are_taken t [] (h ∷ hs) e = absurd (cc)
owned_are_taken t (text_content tags n ∷ ms) hs e = owned_are_taken t ms hs e
owned_are_taken t (content n ∷ ms) hs e = owned_are_taken t ms hs e
owned_are_taken t (lent i ∷ ms) hs e = owned_are_taken t ms hs e ∙ sym (lent_none (handle_at t i) (leaves_met t ms))
owned_are_taken t (taken i ∷ ms) [] e = absurd (cc)
owned_are_taken t (taken i ∷ ms) (h ∷ hs) e =
    let head : Some h ≡ handle_at t i = cc in
    let tail : map Some hs ≡ map (handle_at t) (taken_of ms) = cc in
    ap (λ xs. stands_for h ∷ xs) (owned_are_taken t ms hs tail) ∙ sym (taken_one (handle_at t i) h (leaves_met t ms) head)
