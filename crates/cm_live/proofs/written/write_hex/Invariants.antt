use Rattle.std.proofs.Common.{◌≡◌, ◌++◌, ℕ, List}
use Rattle.std.specs.Io.KnownBytes.{Appends}
use Rattle.hex.specs.Hex.{encode_lower}
use Rattle.cm_live.proofs.written.write_hex.Given as goal

abbrev pub invariant-loop-piece : goal.invariant-loop-piece
invariant-loop-piece g l =
    (done : List ℕ) × (l.bytes ≡ done ++ l.piece-iterator.rest.now)
    × Appends (g.O.Write.contents l.fn.out) (g.O.Write.contents l.out) (encode_lower done)
