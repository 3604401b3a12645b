use Rattle.std.proofs.Common.{◌≡◌, ◌∙◌, ◌∷◌, [], ◌+◌, ◌<◌, length, drop, refl, sym, ap, add-one, drop-cons}
use Rattle.cm_host.specs.Calls.{resumed_last}
use Rattle.cm_host.proofs.Resumed.{one_more}
use Rattle.cm_host.proofs.calling.resumed_last.Goals as goal

pub loop-event-preserved : goal.loop-event-preserved
loop-event-preserved c =
    let i = c.loop-event.event-index in
    let es = c.args.events.now in
    let root = c.args.instance in
    let x = c.event-item.result in
    let lt : i < length es = c.loop-event-test.true in
    let next : drop i es ≡ x ∷ drop (i + 1) es = rw (add-one, drop-cons es i x lt, ← c.event-item.is) refl in
    let before : resumed_last root c.loop-event.kept (x ∷ drop (i + 1) es) ≡ resumed_last root [] es = rw next at c.loop-event.invariant in
    ap (λ k. resumed_last root k (drop (i + 1) es)) c.keep_resumed.ensures ∙ sym (one_more root c.loop-event.kept x (drop (i + 1) es)) ∙ before
