-- What is lent in a lift are the handles to be borrowed of its value.
use Rattle.std.proofs.Common.{◌≡◌, ℕ, inl, inr, List, [], ◌∷◌, Some, refl, sym, ap, subst, ◌∙◌}
use Rattle.std.specs.Prelude.{Contains}
use Rattle.cm_types.specs.Values.{HandleValue}
use Rattle.cm_handles.specs.Handles.{Handles, handle_at}
use Rattle.cm_handles.specs.declared.handle.Handle.{Handle}
use Rattle.cm_abi_model.specs.Receives.{HandleLeaf, borrowed_leaf, owned_leaf}
use Rattle.cm_abi_model.specs.Taken.{Met, content, lent, lent_of, taken, taken_of, text_content}
use Rattle.cm_machine_model.specs.Owning.{IsAmong}
use Rattle.cm_machine_model.specs.Plans.{NoneBorrowed}
use Rattle.cm_machine_model.specs.Valid.{IsBorrowedLeaf}
use Rattle.cm_machine_laws.specs.Taking.{AreThere, IsOf}
use Rattle.cm_lemmas.proofs.Lists.{Contains-first, Contains-rest}

pub contains : (is : List ℕ) (k : ℕ) → IsAmong is k → Contains is k
contains [] k a = absurd a
contains (i ∷ is) k (inl e) = subst (λ n. Contains (i ∷ is) n) e (Contains-first i is)
contains (i ∷ is) k (inr a) = Contains-rest i is k (contains is k a)

-- each handle to be borrowed is lent at an index that was met
pub lent_leaf : (t : Handles) (ms : List Met) (ls : List HandleLeaf) (v : HandleValue) → AreThere t ms ls → IsBorrowedLeaf ls v → (k : ℕ) × IsAmong (lent_of ms) k × IsOf t k v
lent_leaf t [] ls v x b = absurd (subst (λ (z : List HandleLeaf). IsBorrowedLeaf z v) x b)
lent_leaf t (text_content tags n ∷ ms) ls v x b = lent_leaf t ms ls v x b
lent_leaf t (content n ∷ ms) ls v x b = lent_leaf t ms ls v x b
lent_leaf t (taken i ∷ ms) [] v x b = absurd x
lent_leaf t (taken i ∷ ms) (owned_leaf h ∷ ls) v x b = lent_leaf t ms ls v x.1 b
lent_leaf t (taken i ∷ ms) (borrowed_leaf h ∷ ls) v x b = absurd x
lent_leaf t (lent i ∷ ms) [] v x b = absurd x
lent_leaf t (lent i ∷ ms) (owned_leaf h ∷ ls) v x b = absurd x
lent_leaf t (lent i ∷ ms) (borrowed_leaf h ∷ ls) v x (inl e) = (i, inl refl, subst (λ (z : HandleValue). IsOf t i z) e x.0)
lent_leaf t (lent i ∷ ms) (borrowed_leaf h ∷ ls) v x (inr b) = let k = lent_leaf t ms ls v x.1 b in (k.0, inr k.1, k.2)

pub lent_is_there : (t : Handles) (ms : List Met) (ls : List HandleLeaf) (k : ℕ) → AreThere t ms ls → IsAmong (lent_of ms) k → (h : Handle) × (handle_at t k ≡ Some h)
lent_is_there t [] ls k x a = absurd a
lent_is_there t (text_content tags n ∷ ms) ls k x a = lent_is_there t ms ls k x a
lent_is_there t (content n ∷ ms) ls k x a = lent_is_there t ms ls k x a
lent_is_there t (taken i ∷ ms) [] k x a = absurd x
lent_is_there t (taken i ∷ ms) (owned_leaf h ∷ ls) k x a = lent_is_there t ms ls k x.1 a
lent_is_there t (taken i ∷ ms) (borrowed_leaf h ∷ ls) k x a = absurd x
lent_is_there t (lent i ∷ ms) [] k x a = absurd x
lent_is_there t (lent i ∷ ms) (owned_leaf h ∷ ls) k x a = absurd x
lent_is_there t (lent i ∷ ms) (borrowed_leaf h ∷ ls) k x (inl e) = (x.0.0, ap (λ n. handle_at t n) (sym e) ∙ x.0.1)
lent_is_there t (lent i ∷ ms) (borrowed_leaf h ∷ ls) k x (inr a) = lent_is_there t ms ls k x.1 a

pub taken_is_there : (t : Handles) (ms : List Met) (ls : List HandleLeaf) (k : ℕ) → AreThere t ms ls → IsAmong (taken_of ms) k → (h : Handle) × (handle_at t k ≡ Some h)
taken_is_there t [] ls k x a = absurd a
taken_is_there t (text_content tags n ∷ ms) ls k x a = taken_is_there t ms ls k x a
taken_is_there t (content n ∷ ms) ls k x a = taken_is_there t ms ls k x a
taken_is_there t (taken i ∷ ms) [] k x a = absurd x
taken_is_there t (taken i ∷ ms) (owned_leaf h ∷ ls) k x (inl e) = (x.0.0, ap (λ n. handle_at t n) (sym e) ∙ x.0.1)
taken_is_there t (taken i ∷ ms) (owned_leaf h ∷ ls) k x (inr a) = taken_is_there t ms ls k x.1 a
taken_is_there t (taken i ∷ ms) (borrowed_leaf h ∷ ls) k x a = absurd x
taken_is_there t (lent i ∷ ms) [] k x a = absurd x
taken_is_there t (lent i ∷ ms) (owned_leaf h ∷ ls) k x a = absurd x
taken_is_there t (lent i ∷ ms) (borrowed_leaf h ∷ ls) k x a = taken_is_there t ms ls k x.1 a

-- nothing is lent where nothing is to be borrowed
pub none_lent : (t : Handles) (ms : List Met) (ls : List HandleLeaf) → AreThere t ms ls → NoneBorrowed ls → lent_of ms ≡ []
none_lent t [] ls x b = refl
none_lent t (text_content tags n ∷ ms) ls x b = none_lent t ms ls x b
none_lent t (content n ∷ ms) ls x b = none_lent t ms ls x b
none_lent t (taken i ∷ ms) [] x b = absurd x
none_lent t (taken i ∷ ms) (owned_leaf h ∷ ls) x b = none_lent t ms ls x.1 b
none_lent t (taken i ∷ ms) (borrowed_leaf h ∷ ls) x b = absurd x
none_lent t (lent i ∷ ms) [] x b = absurd x
none_lent t (lent i ∷ ms) (owned_leaf h ∷ ls) x b = absurd x
none_lent t (lent i ∷ ms) (borrowed_leaf h ∷ ls) x b = absurd b

pub none_to_borrow : (ls : List HandleLeaf) (v : HandleValue) → NoneBorrowed ls → IsBorrowedLeaf ls v → ⊥
none_to_borrow [] v n b = b
none_to_borrow (owned_leaf h ∷ ls) v n b = none_to_borrow ls v n b
none_to_borrow (borrowed_leaf h ∷ ls) v n b = n
