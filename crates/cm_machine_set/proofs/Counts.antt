-- How many components there are, and how many handles are owned.
use Rattle.std.proofs.Common.{◌≡◌, suc, List, [], ◌∷◌, length, refl, ap}
use Rattle.std.specs.Prelude.{filter}
use Rattle.cm_abi_model.specs.declared.leaf.HandleLeaf.{HandleLeaf}
use Rattle.cm_abi_model.specs.declared.leaf.HandleLeaf.TheVariants as leaf
use Rattle.cm_abi_model.specs.HandleLeaves.{leaves_of, owned_in}
use Rattle.cm_machine_set.specs.Running.{is_owned}

pub owned_are : (hs : List HandleLeaf) → length (filter is_owned hs) ≡ length (owned_in (leaves_of hs))
owned_are [] = refl
owned_are (leaf.Owned h ∷ hs) = ap suc (owned_are hs)
owned_are (leaf.Borrowed h ∷ hs) = owned_are hs
