use Rattle.std.proofs.Common.{◌≡◌, ◌%◌, ◌^◌, ◌∙◌, sym, arith, cond, map, replicate}
use Rattle.std.proofs.lemmas.Bool.Decides.{nat_tests}
use Rattle.std.proofs.lemmas.Simd.{length-chunk, leading_from_mask_l}
use lib.Dec.{leb}
use lib.Lanes.{chunk, mask_l, top, zip2}
use Rattle.cm_text.proofs.LaneLemmas.{mask_from, prefix_len-below}
use Rattle.cm_text.proofs.kernels.is_ascii_in.Goals as goal

pub returns : goal.returns
returns c =
    let xs = chunk c.args.at 64 c.args.bytes.now in
    let long = length-chunk c.args.at 64 c.args.bytes.now c.requires in
    let hits = mask_from 64 128 xs long (omega arith) in
    λ none.
    let zero_mask : mask_l (map (top 7) (zip2 (λ a b. cond (leb a b) 255 0) (replicate 64 128) xs)) % 2 ^ 64 ≡ 0 = grind (arith, nat_tests, none) in
    sym (prefix_len-below 128 xs) ∙ leading_from_mask_l (λ x. leb 128 x) xs (sym hits ∙ zero_mask) ∙ long
