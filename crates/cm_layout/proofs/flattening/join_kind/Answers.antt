use Rattle.std.proofs.Common.{◌≡◌, ◌<◌, ◌∙◌, ap, arith, length}
use Rattle.cm_layout.specs.Flattening.{join}
use Rattle.cm_layout.proofs.FlatLemmas.{joined_slot_here, joined_slot_end}
use Rattle.cm_layout.proofs.flattening.join_kind.Goals as goal
use Rattle.cm_layout.proofs.flattening.join_kind.Goals.{then-at-len, else-at-len+in_ok-push}

pub returns : goal.returns
returns c = elim c.if-at-len.branch [
  | then-at-len w ↦
      let lt : c.args.at < length c.args.kinds.now.items = omega (arith, w.if-at-len.true, c.len.ensures, c.args.kinds.now.ok.0) in
      joined_slot_here c.args.at c.args.kinds.now.items c.if-at-len.kinds.items c.args.kind w.join.result w.index.result.now lt (w.join.ensures ∙ ap (λ x. join x c.args.kind) w.index.ensures) (ap (λ v. v.items) w.kinds-is)
  | else-at-len+in_ok-push w ↦
      let at : c.args.at ≡ length c.args.kinds.now.items = omega (arith, w.if-at-len.false, c.len.ensures, c.args.kinds.now.ok.0, c.requires) in
      joined_slot_end c.args.at c.args.kinds.now.items c.if-at-len.kinds.items c.args.kind at (ap (λ v. v.items) w.kinds-is ∙ w.in_ok-push.ensures.items)
]
