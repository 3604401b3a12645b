use Rattle.std.proofs.Common.{◌+◌, ◌*◌, ◌∙◌, ◌++◌, take, ap, sym, arith}
use Rattle.std.specs.List.{flat_map}
use lib.Lanes.{chunk}
use Rattle.cm_text.specs.Ascii.{wide}
use Rattle.cm_text.proofs.UnitLemmas.{wide-take}
use Rattle.cm_text.proofs.kernels.widen.Goals as goal

pub loop-at-preserved : goal.loop-at-preserved
loop-at-preserved c =
    let at = c.loop-at.at in
    let bytes = c.args.bytes.now in (
      omega arith,
      ap (λ n. take n c.widen_in.new.out) {x = 2 * (at + 16)} {y = 2 * at + 32} (omega arith)
          ∙ c.widen_in.ensures.written ∙ ap (λ ys. ys ++ flat_map wide (chunk at 16 bytes)) c.loop-at.invariant.1 ∙ sym (wide-take at 16 bytes),
    )
