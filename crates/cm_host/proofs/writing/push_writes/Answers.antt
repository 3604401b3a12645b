use Rattle.std.proofs.Common.{[], ◌∷◌, ◌++◌, ap, subst, ◌∙◌}
use Rattle.std.proofs.lemmas.List.{append_assoc}
use Rattle.cm_machine.specs.cm_machine_model.Moves.{WritesAt}
use Rattle.cm_host.proofs.Moves.{growths_before, one_write}
use Rattle.cm_host.proofs.writing.push_writes.Goals as goal

pub returns : goal.returns
returns c =
    let g = c.in_ok-push_growth.ensures in
    let w = c.in_ok-write.field-0 in
    let bytes = c.args.lowered.now.bytes.items in (
      g.0 ++ w ∷ [],
      growths_before bytes g.0 (w ∷ []) g.1 (one_write bytes w (subst (λ b. WritesAt 0 b w) c.deref.ensures.value c.in_ok-write.ensures)),
      c.in_ok-push_back.ensures.items ∙ ap (λ xs. xs ++ w ∷ []) g.2 ∙ append_assoc c.args.moves.now.items g.0 (w ∷ []),
    )
