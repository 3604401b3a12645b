use Rattle.std.proofs.Common.{◌≡◌, arith, refl}
use Rattle.std.specs.Char.{is_ascii}
use Rattle.std.specs.List.{prefix_len}
use lib.Lanes.{chunk}
use Rattle.cm_text.proofs.RunLemmas.{bytes_whole}
use Rattle.cm_text.proofs.kernels.ascii_blocks.Goals as goal

pub loop-at-preserved : goal.loop-at-preserved
loop-at-preserved c =
    let at = c.loop-at.at in
    let bytes = c.args.bytes.now in
    let whole : prefix_len is_ascii (chunk at 64 bytes) ≡ 64 = c.if-not-is_ascii_in.ensures refl in
    (omega arith, omega (arith, c.loop-at.invariant.1, bytes_whole at 64 bytes (omega arith) whole))
