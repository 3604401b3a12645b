use Rattle.std.proofs.Common.{◌≡◌, ◌∙◌, ◌+◌, List, ap, arith, length, get_or, vec_len}
use Rattle.cm_wit_graph.specs.Orders.{needs_of}
use Rattle.cm_wit_graph.specs.Walks.{Entry, Standing, standing, entries_of, unmarked}
use Rattle.cm_wit_graph.proofs.StandLaws.{all_settled, unmarked_fresh}
use Rattle.cm_wit_graph.proofs.ordering.settled.Goals as goal

pub go_through-requires : goal.go_through-requires
go_through-requires c =
    let s : Standing = record { count = length c.args.rows.now; needs = needs_of c.args.rows.now; placed = c.in_ok-from_elem.field-0.items; lists = vec_len c.in_ok-empty_lists.field-0; waiting = entries_of c.in_ok-empty_lists.field-0.items; order = c.new.result.items } in
    let fresh = c.in_ok-from_elem.ensures.items_if_clones_equal (λ y e. e) in
    let placed : unmarked s.placed ≡ s.count = ap unmarked fresh ∙ unmarked_fresh s.count in
    let work : length s.order + unmarked s.placed ≡ s.count = omega (arith, ap length c.new.ensures.items, placed) in
    all_settled s (standing c.settle_all.new.self) c.deref.result.now c.in_ok-settle_all.ensures.stands c.in_ok-settle_all.ensures.goes c.in_ok-settle_all.ensures.settled (c.deref.ensures.len ∙ c.in_ok-all_nodes.ensures.len) (λ k lt. ap (λ (l : List Entry). get_or l k (0, 0)) c.deref.ensures.value ∙ c.in_ok-all_nodes.ensures.nodes k lt) work
