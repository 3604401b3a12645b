use Rattle.std.proofs.Common.{◌≡◌, ◌∙◌, ap, ℕ, length, arith}
use Rattle.std.specs.Prelude.{◌-◌, reverse, slice_set}
use Rattle.cm_machine_parts.proofs.TopCalls.{put_last}
use Rattle.cm_machine_parts.proofs.stack.put_last.Goals as goal

pub returns-clause-frames : goal.returns-clause-frames
returns-clause-frames c =
    let frames = c.args.frames.now.items in
    let last : c.len-last.result - 1 ≡ length frames - 1 = omega (arith, c.len-last.ensures, c.args.frames.now.ok.0) in
    ap (λ (k : ℕ). reverse (slice_set frames k c.args.frame)) last ∙ put_last frames c.args.frame (omega (arith, c.requires, c.args.frames.now.ok.0))
