-- Laws of what Giving defines, for this crate and those above it.
use Rattle.std.proofs.Common.{List, length, ◌≡◌, [], refl, ◌∷◌, ap, suc}
use Rattle.cm_abi_model.specs.Giving.{numbers_given, with_added, added_for}
use Rattle.cm_abi_model.specs.Receives.{HandleLeaf}
use Rattle.cm_abi_model.specs.declared.receiver.Receiver.{Receiver}
use Rattle.cm_handles.specs.Handles.{Handles}

pub numbers_counted : (to : Receiver) (t : Handles) (leaves : List HandleLeaf) → length (numbers_given to t leaves) ≡ length leaves
numbers_counted to t [] = refl
numbers_counted to t (leaf ∷ leaves) = ap suc (numbers_counted to (with_added t (added_for to leaf)) leaves)
