-- Where the resources of handles are, once they were given.
use Rattle.std.proofs.Common.{◌≡◌, ℕ, List, [], ◌∷◌, length, refl, arith}
use Rattle.cm_abi_model.specs.Receives.{HandleLeaf}
use Rattle.cm_machine_model.specs.declared.frame.Place.{Place}
use Rattle.cm_machine_model.specs.Step.{owners_given}

pub none_given : (i : ℕ) (leaves : List HandleLeaf) (ns : List ℕ) (owners : List Place) → length ns ≡ 0 → owners_given i leaves ns owners ≡ owners
none_given i [] ns owners none = refl
none_given i (leaf ∷ leaves) [] owners none = refl
none_given i (leaf ∷ leaves) (n ∷ ns) owners none = absurd (omega (arith, none))
