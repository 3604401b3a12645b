-- What a guest with a script's moves does (this project's own choice).
use Rattle.std.specs.Prelude.{◌≡◌, List, [], ◌∷◌}
use Rattle.cm_machine_model.specs.declared.moves.Move.{Move}
use Rattle.cm_machine_model.specs.declared.moves.Move.TheVariants as move
use Rattle.cm_machine_model.specs.Exchange.{Exchange}

-- A guest with these moves makes them in order, whatever it sees, and then only stops.
abbrev pub Makes : List Move → List Exchange → Type 0
Makes moves [] = Unit {0}
Makes [] (x ∷ told) = (x.made ≡ move.Unreachable) × Makes [] told
Makes (m ∷ moves) (x ∷ told) = (x.made ≡ m) × Makes moves told
