use Rattle.std.proofs.Common.{◌≡◌, ◌==◌, ℕ, List, length, Option, Some, filter, subst, sym, ap, ◌∙◌}
use Rattle.cm_abi_model.specs.declared.leaf.HandleLeaf.{HandleLeaf}
use Rattle.cm_abi_model.specs.declared.record.PartRecord.{PartRecord}
use Rattle.cm_abi_model.specs.HandleLeaves.{owned_in}
use Rattle.cm_machine_model.specs.declared.frame.Lend.{Lend}
use Rattle.cm_machine_model.specs.Work.{lends_kept, work_of}
use Rattle.cm_machine_parts.specs.States.{state_of}
use Rattle.cm_machine_set.proofs.Kept.{work, work_is}
use Rattle.cm_machine_set.specs.Running.{RunningSet}
use Rattle.cm_machine_set.proofs.set.Set.work.Goals as goal

pub returns-in-Some-clause-work : goal.returns-in-Some-clause-work
returns-in-Some-clause-work c =
    let inside = c.self.inside.state in
    let lends = c.lend_count-lends.ensures
    ∙ ap (λ (ls : List Lend). length (filter (λ l. l.frame == c.in-Some.place) ls)) c.as_slice.ensures
    ∙ ap (λ (o : Option ℕ). lends_kept o inside.lends) c.in-Some.ensures in
    let is = work_is (state_of inside) inside.passing.scan _ _ _ c.what_is_kept.ensures
    (ap (λ (rs : List PartRecord). length rs) c.records-records.ensures)
    (c.owned_count-handles.ensures ∙ ap (λ ls. length (owned_in ls)) c.handles.ensures) lends in
    subst (λ (x : RunningSet). work (length c.records-records.result.now) c.owned_count-handles.result c.lend_count-lends.result ≡ work_of x.state) c.self.view_is is
