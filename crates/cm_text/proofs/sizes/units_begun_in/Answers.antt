use Rattle.std.proofs.Common.{arith}
use Rattle.std.proofs.lemmas.Simd.{length-chunk}
use Rattle.std.specs.Simd.Lanes.{chunk}
use Rattle.cm_text.proofs.CountLemmas.{begun_by_counts}
use Rattle.cm_text.proofs.sizes.units_begun_in.Goals as goal

pub returns : goal.returns
returns c =
    omega (
      arith,
      begun_by_counts (chunk c.args.at 16 c.args.bytes.now),
      length-chunk c.args.at 16 c.args.bytes.now c.requires,
      c.count_from.ensures.value,
      c.count_from-2.ensures.value,
      c.count_from-3.ensures.value,
    )
