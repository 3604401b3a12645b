use Rattle.std.proofs.Common.{◌≡◌, ◌<◌, ℕ, List, Bool, true, false, sym, length, subst}
use Rattle.cm_wit_graph.specs.Orders.{Needs, IsOrder, NeedsItself, needs_of}
use Rattle.cm_wit_graph.specs.Walks.{standing, IsMarked}
use Rattle.cm_wit_graph.proofs.StandLaws.{is_order, needs_itself}
use Rattle.cm_wit_graph.proofs.ordering.order_of.Goals as goal

pub returns-then-all_marked : goal.returns-then-all_marked
returns-then-all_marked c =
    let all = subst (λ (m : List Bool). (k : ℕ) → k < length m → IsMarked m k) c.deref.ensures.value (c.all_marked.ensures.0 c.if-all_marked.true) in
    let o = is_order (standing c.in_ok-walk.walk) c.in_ok-walk.ensures.through all in
    subst (λ (n : ℕ). IsOrder n (needs_of c.args.rows.now) c.in_ok-walk.walk.order.items) c.in_ok-walk.ensures.count (subst (λ (f : Needs). IsOrder (standing c.in_ok-walk.walk).count f c.in_ok-walk.walk.order.items) c.in_ok-walk.ensures.needs o)

not_true : (b : Bool) → b ≡ false → b ≡ true → ⊥
not_true true e f = cc
not_true false e f = cc

pub returns : goal.returns
returns c =
    let h = needs_itself (standing c.in_ok-walk.walk) c.in_ok-walk.ensures.through (λ all. not_true c.all_marked.result c.if-all_marked.false (c.all_marked.ensures.1 (subst (λ (m : List Bool). (k : ℕ) → k < length m → IsMarked m k) (sym c.deref.ensures.value) all))) in
    (h.0, subst (λ (f : Needs). NeedsItself f h.0) c.in_ok-walk.ensures.needs h.1)
