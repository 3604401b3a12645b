use Rattle.std.proofs.Common.{◌≡◌, ℕ, List, length}
use Rattle.std.specs.Io.KnownBytes.{Consumes}
use Rattle.cm_binary.specs.declared.streams.TheConstants.{READ_BYTES}
use Rattle.cm_binary.specs.Pieces.{HasCome}
use Rattle.cm_binary.proofs.streams.read_from.Given as goal

abbrev pub invariant-loop : goal.invariant-loop
invariant-loop g l = (bytes : List ℕ) × Consumes (g.R.Read.remaining l.fn.reader) (g.R.Read.remaining l.reader) bytes × HasCome l.gathered.decoder l.gathered.unfed.items bytes × (length l.buffer ≡ READ_BYTES)
