use Rattle.std.proofs.Common.{arith}
use Rattle.std.proofs.lemmas.Bool.Decides.{nat_tests}
use Rattle.std.proofs.lemmas.Simd.{length-chunk}
use lib.Lanes.{chunk}
use Rattle.cm_text.proofs.LaneLemmas.{units_32}
use Rattle.cm_text.proofs.kernels.are_ascii_units_in.Goals as goal

pub returns : goal.returns
returns c =
    λ none. units_32 (chunk c.args.at 64 c.args.bytes.now) (length-chunk c.args.at 64 c.args.bytes.now c.requires) (grind (arith, nat_tests, none))
