-- Laws of what Trees defines, for this crate and those above it.
use Rattle.std.proofs.Common.{ℕ, Option, Result, ◌≡◌, Ok, None, Some, Err}
use Rattle.cm_wit_reading.specs.Trees.{File}
use Rattle.cm_wit_tokens.specs.Faults.{Fault}
use Rattle.cm_wit_tokens.specs.Whole.{placed}

pub placed_ok : (size : ℕ) (stop : Option ℕ) (r : Result File Fault) (f : File) → placed size stop r ≡ Ok f → r ≡ Ok f
placed_ok size None (Ok x) f e = cc
placed_ok size (Some left) (Ok x) f e = absurd cc
placed_ok size stop (Err d) f e = absurd cc
