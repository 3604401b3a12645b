use Rattle.std.proofs.Common.{◌≡◌, ◌+◌, ◌*◌, ap, arith, drop, refl}
use Rattle.std.specs.Char.{is_ascii}
use Rattle.std.specs.List.{prefix_len}
use lib.Lanes.{chunk}
use Rattle.cm_text.specs.Utf16.{units}
use Rattle.cm_text.proofs.RunLemmas.{units_whole}
use Rattle.cm_text.proofs.kernels.ascii_unit_blocks.Goals as goal

pub loop-count-preserved : goal.loop-count-preserved
loop-count-preserved c =
    let k = c.loop-count.count in
    let xs = c.args.bytes.now in
    let whole : prefix_len is_ascii (units (chunk (2 * k) 64 xs)) ≡ 32 = c.if-not-are_ascii_units_in.ensures refl in
    let on = units_whole (2 * k) 32 xs (omega arith) whole in
    (omega arith, omega (arith, c.loop-count.invariant.1, on, ap (λ n. prefix_len is_ascii (units (drop n xs))) {x = 2 * (k + 32)} {y = 2 * k + 64} (omega arith)))
