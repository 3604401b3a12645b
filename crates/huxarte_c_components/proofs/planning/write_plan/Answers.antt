use Rattle.huxarte_c_components.proofs.PlanLaws.{told}
use Rattle.huxarte_c_components.proofs.planning.write_plan.Goals as goal

pub returns-clause-told : goal.returns-clause-told
returns-clause-told c =
    told _ _ _ _ _ _ _ _ _ c.in_ok-found.ensures (rw c.deref.ensures.value at c.in_ok-rows.ensures) (rw c.deref-2.ensures.value at c.in_ok-bytes.ensures) (rw c.deref-3.ensures.value at c.write_items.ensures.wanted) (rw c.deref-4.ensures.value at c.write_items-2.ensures.wanted) (rw c.deref-3.ensures.value at c.write_items.ensures.written) (rw c.deref-4.ensures.value at c.write_items-2.ensures.written)
