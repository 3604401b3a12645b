-- Lists as they are shown (this project's own choice): a comma and a blank between their members.
use Rattle.std.specs.Prelude.{ℕ, zero, suc, List, [], ◌∷◌, ◌++◌, codes}
use Rattle.std.specs.List.{flat_map}
use Rattle.cm_tool_show.specs.Pieces.{Piece, chars}

-- pieces one behind the other, with commas between them
abbrev pub with_commas : List (List Piece) → List Piece
with_commas [] = []
with_commas (p ∷ ps) = p ++ flat_map (λ q. chars (codes ", ") ∷ q) ps

-- what stands before the n-th member of a list, from 0
abbrev pub comma_before : ℕ → List Piece
comma_before zero = []
comma_before (suc n) = chars (codes ", ") ∷ []
