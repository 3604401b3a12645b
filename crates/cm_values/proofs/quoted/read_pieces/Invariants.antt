use Rattle.std.proofs.Common.{◌≡◌, List, length}
use Rattle.cm_values.specs.declared.piece.Piece.{Piece}
use Rattle.cm_values.specs.Grammar.{steps}
use Rattle.cm_values.specs.Quoted.{next_piece, pieces_bytes}
use Rattle.cm_values.proofs.StepLaws.{StepsGo}
use Rattle.cm_values.proofs.quoted.read_pieces.Given as goal

-- these pieces were read
abbrev pub invariant-loop-bytes : goal.invariant-loop-bytes
invariant-loop-bytes l = (ps : List Piece) × (l.bytes.items ≡ pieces_bytes ps) × StepsGo (next_piece l.quote) ps l.cursor.rest.now ((steps (next_piece l.quote)).reads l.initial.cursor.rest.now)

abbrev pub decreases-loop-bytes : goal.decreases-loop-bytes
decreases-loop-bytes l = length l.cursor.rest.now
