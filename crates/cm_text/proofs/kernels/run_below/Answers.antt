use Rattle.std.proofs.Common.{sym, ap, ◌∙◌, arith}
use Rattle.std.proofs.lemmas.Simd.{leading_from_mask_l, trailing_mask_l}
use lib.Count.{count_trailing_zeros}
use lib.Dec.{leb}
use Rattle.cm_text.proofs.LaneLemmas.{mask_from, prefix_len-below}
use Rattle.cm_text.proofs.kernels.run_below.Goals as goal

pub returns-then-others-eq0 : goal.returns-then-others-eq0
returns-then-others-eq0 c =
    let xs = c.args.lanes in
    let k = c.args.least in
    let long = c.fits-lanes.0 in
    let hits = mask_from 16 k xs long (omega arith) in
    sym (sym (prefix_len-below k xs) ∙ leading_from_mask_l (λ x. leb k x) xs (sym hits ∙ c.if-others-eq0.true) ∙ long)

pub returns-else-others-eq0 : goal.returns-else-others-eq0
returns-else-others-eq0 c =
    let xs = c.args.lanes in
    let k = c.args.least in
    let long = c.fits-lanes.0 in
    let hits = mask_from 16 k xs long (omega arith) in
    ap (count_trailing_zeros 64) hits ∙ trailing_mask_l (λ x. leb k x) 64 xs (omega arith) (omega arith) ∙ prefix_len-below k xs
