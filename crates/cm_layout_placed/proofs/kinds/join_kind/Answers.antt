use Rattle.std.proofs.Common.{◌≡◌, ◌<◌, ◌∙◌, ap, arith, length, sym}
use Rattle.std.proofs.Math.ListN.{set}
use Rattle.cm_layout.specs.Flattening.{join}
use Rattle.cm_layout_placed.proofs.KindLaws.{joined_end}
use Rattle.cm_layout_placed.proofs.kinds.join_kind.Goals as goal
use Rattle.cm_layout.proofs.FlatLemmas.{joined_here}

pub returns-then-at-len : goal.returns-then-at-len
returns-then-at-len c =
    let xs = c.args.kinds.now.items in
    let lt : c.args.at < length xs = omega (arith, c.if-at-len.true, c.len.ensures, c.args.kinds.now.ok.0) in
    sym (joined_here c.args.at xs c.args.kind c.index.result.now lt ∙ ap (λ k. set xs c.args.at k) (sym (c.join.ensures ∙ ap (λ x. join x c.args.kind) c.index.ensures)))

pub returns-in_ok-push : goal.returns-in_ok-push
returns-in_ok-push c =
    let xs = c.args.kinds.now.items in
    let at : c.args.at ≡ length xs = omega (arith, c.if-at-len.false, c.len.ensures, c.args.kinds.now.ok.0, c.requires) in
    c.in_ok-push.ensures.items ∙ sym (joined_end c.args.at xs c.args.kind at)
