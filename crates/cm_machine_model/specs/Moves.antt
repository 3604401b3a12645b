-- What a guest's move is, said of the lists that it is made of (this project's own choice).
use Rattle.std.specs.Prelude.{◌≡◌, ℕ, List}
use Rattle.cm_types.specs.declared.core_value.CoreValue.{CoreValue}
use Rattle.cm_machine_model.specs.declared.moves.Move.{Move}
use Rattle.cm_machine_model.specs.declared.moves.Move.TheVariants as move

-- a call of this core function with these arguments
abbrev pub CallsWith : ℕ → List CoreValue → Move → Type 0
CallsWith func args (move.Call f xs) = (f ≡ func) × (xs.items ≡ args)
CallsWith func args (move.Write at bytes) = ⊥
CallsWith func args (move.Grow pages) = ⊥
CallsWith func args (move.Return values) = ⊥
CallsWith func args move.Unreachable = ⊥

-- a return with these values
abbrev pub ReturnsWith : List CoreValue → Move → Type 0
ReturnsWith values (move.Return xs) = xs.items ≡ values
ReturnsWith values (move.Call f args) = ⊥
ReturnsWith values (move.Write at bytes) = ⊥
ReturnsWith values (move.Grow pages) = ⊥
ReturnsWith values move.Unreachable = ⊥

-- a write of these bytes from this address on
abbrev pub WritesAt : ℕ → List ℕ → Move → Type 0
WritesAt at bytes (move.Write a xs) = (a ≡ at) × (xs.items ≡ bytes)
WritesAt at bytes (move.Call f args) = ⊥
WritesAt at bytes (move.Grow pages) = ⊥
WritesAt at bytes (move.Return values) = ⊥
WritesAt at bytes move.Unreachable = ⊥
