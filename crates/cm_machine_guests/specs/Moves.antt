-- Moves that are played in order (this project's own choice).
use Rattle.std.specs.Prelude.{◌≡◌, ⊤, List, [], ◌∷◌}
use Rattle.cm_machine_model.specs.declared.moves.Move.{Move}
use Rattle.cm_machine_model.specs.declared.moves.Move.TheVariants as move

-- the move that is played while these moves are left, and those that are left then
abbrev pub IsNext : List Move → Move → List Move → Type 0
IsNext [] made left = (made ≡ move.Unreachable) × (left ≡ [])
IsNext (m ∷ ms) made left = (made ≡ m) × (left ≡ ms)

-- While the first moves are left, the second ones are played: the same in order, and stops behind
-- them.
abbrev pub PlaysMoves : List Move → List Move → Type 0
PlaysMoves moves [] = ⊤
PlaysMoves [] (x ∷ xs) = (x ≡ move.Unreachable) × PlaysMoves [] xs
PlaysMoves (m ∷ ms) (x ∷ xs) = (x ≡ m) × PlaysMoves ms xs
