use Rattle.std.proofs.Common.{◌≡◌, ◌<◌, ◌≤◌, ◌∙◌, ℕ, List, get_or, length, map, ap, subst}
use Rattle.std.specs.List.{list_any}
use Rattle.std.proofs.lemmas.List.{take_all}
use Rattle.cm_hux_diff.specs.Facing.{best_face, is_at}
use Rattle.cm_hux_diff.proofs.Faces.{faced_next}
use Rattle.cm_hux_diff.proofs.links.Links.faced.Goals as goal

pub loop-name-preserved : goal.loop-name-preserved
loop-name-preserved c = λ n.
    let self = c.args.self.now in
    let i = c.loop-name.name-index in
    let x = c.name-item.result in
    let value = c.deref-name-items.ensures.value in
    faced_next (best_face self.offers.names.items) self.exports.names.items i x _ n _ _
    (subst (λ (l : List (List ℕ)). i < length l) value c.loop-name-test.true)
    (subst (λ (l : List (List ℕ)). x ≡ get_or l i x) value c.name-item.is)
    c.in_ok-best_face.ensures (c.loop-name.invariant n) (c.in_ok-add_faced.ensures n)

pub returns : goal.returns
returns c = λ n.
    let self = c.args.self.now in
    let i = c.loop-name.name-index in
    c.loop-name.invariant n
    ∙ ap (λ l. list_any (is_at n) (map (best_face self.offers.names.items) l))
    (take_all i self.exports.names.items (subst (λ (l : List (List ℕ)). length l ≤ i) c.deref-name-items.ensures.value c.loop-name-test.false))
