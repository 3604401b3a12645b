use Rattle.std.proofs.Common.{◌≡◌, ◌≤◌, ◌+◌, ◌-◌, ℕ, List, length, take, drop, ◌∙◌, arith, length-drop}
use Rattle.std.proofs.Math.Seq.{paste}
use Rattle.std.proofs.lemmas.List.{take_rest}
use Rattle.std.proofs.lemmas.List.Edits.{take-paste}
use Rattle.std.proofs.lemmas.Grind.{common_steps}
use Rattle.std.specs.Vec.{vec_len}
use Rattle.cm_binary.proofs.whole.drop_front.Goals as goal

-- What stands behind so many elements, moved to the front.
moved_front : (xs : List ℕ) (i size n k : ℕ) → i ≤ length xs → size ≡ length xs → n ≡ size - i → k ≡ 0 + n → take k (paste xs 0 (drop i xs) n) ≡ drop i xs
moved_front xs i size n k h is left all = rw all (take-paste xs 0 (drop i xs) n (omega arith) (omega (arith, length-drop i xs)) ∙ rw (left, is) (take_rest xs i))

pub returns : goal.returns
returns c =
    let xs = c.args.bytes.now.items in
    let size : vec_len c.args.bytes.now ≡ length xs = grind (arith, common_steps) in
    c.truncate.ensures.items ∙ rw c.copy_within.ensures.items (moved_front xs c.args.count (vec_len c.args.bytes.now) (vec_len c.args.bytes.now - c.args.count) (c.len.result - c.args.count) c.requires size (omega arith) (omega (arith, c.len.ensures)))
