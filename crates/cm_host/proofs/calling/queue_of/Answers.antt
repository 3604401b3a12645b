use Rattle.std.proofs.Common.{[], ◌∷◌, ◌++◌, ap, subst, ◌∙◌}
use Rattle.std.proofs.lemmas.List.{append_assoc}
use Rattle.cm_machine.specs.cm_machine_model.Moves.{CallsWith}
use Rattle.cm_host.proofs.Moves.{growths_before}
use Rattle.cm_host.proofs.calling.queue_of.Goals as goal

pub returns : goal.returns
returns c =
    let g = c.in_ok-push_growth.ensures in
    let w = c.in_ok-push_writes.ensures in
    let call = c.in_ok-call.call in
    let last = c.in_ok-ret.field-0 in
    record {
      writes = g.0 ++ w.0;
      call = call;
      last = last;
      moves_are = c.in_ok-push-2.ensures.ok
          ∙ ap (λ xs. xs ++ last ∷ []) (c.in_ok-push.ensures.ok ∙ ap (λ xs. xs ++ call ∷ []) (w.2 ∙ ap (λ xs. xs ++ w.0) (g.2 ∙ ap (λ xs. xs ++ g.0) c.new-queue.ensures)))
          ∙ append_assoc (g.0 ++ w.0) (call ∷ []) (last ∷ []);
      written = growths_before c.args.ready.now.lowered.bytes.items g.0 w.0 g.1 w.1;
      called = subst (λ s. CallsWith c.args.func (s ++ c.args.ready.now.place) call) c.deref.ensures.value (subst (λ s. CallsWith c.args.func (c.deref.result.now ++ s) call) c.as_slice.ensures c.in_ok-call.ensures);
      returned = c.in_ok-ret.ensures;
    }
