use Rattle.std.proofs.Common.{◌≡◌, ℕ, ◌<◌, List, length, sym, ap, subst, ◌∙◌, arith}
use Rattle.std.specs.Prelude.{Ok}
use Rattle.cm_handles.specs.Borrows.{borrows_of}
use Rattle.cm_handles.specs.Handles.{Handles, IsSoundHandles, TableState}
use Rattle.cm_machine_model.specs.declared.frame.Place.{Place}
use Rattle.cm_machine_model.specs.Stack.{actor}
use Rattle.cm_machine_model.specs.State.{State, table_at}
use Rattle.cm_machine_parts.specs.Kept.{AreBorrowsCounted}
use Rattle.cm_machine_parts.specs.States.{handles_in, state_of}
use Rattle.cm_machine_resources.specs.Adding.{AddsResource, MakesNone, new_handle}
use Rattle.cm_machine_resources.proofs.Making.{made_at, made_none_at, made_same, with_parts}
use Rattle.cm_machine_resources.proofs.makes.make_resource.Goals as goal

pub returns-in-Err-clause-row : goal.returns-in-Err-clause-row
returns-in-Err-clause-row c =
    let s : State = state_of c.args.state.now in
    let items : List TableState = c.args.state.now.tables.items in
    let i = c.actor-instance.result in
    let old : TableState = c.index_mut-table.result.now in
    let new : TableState = c.add_resource.new.table in
    let lt : i < length items = omega (arith, c.frames_have_instances.ensures.acts c.requires.runs.0 s c.args.top.now c.requires.runs.1.valid c.requires.top, c.tables_are_handles.ensures.count items, c.actor-instance.ensures) in
    let here : table_at s.tables i ≡ old.handles = c.tables_are_handles.ensures.read items i old lt c.index_mut-table.ensures.value in
    let none = c.in-Err.ensures in
    made_none_at s c.args.top.now c.args.resource c.args.args.now c.in-Err.trap new.handles c.add_resource.new.owners.items i _ c.actor-instance.ensures c.in-Some.ensures.0 (c.may_leave.ensures.0 cc)
    (subst (λ (t : Handles). MakesNone t s.owners c.in-Err.trap) (sym here) none.0) (none.1 ∙ sym here) none.2
    (ap (λ (ts : List Handles). record s { tables = ts; owners = c.add_resource.new.owners.items }) (c.tables_are_handles.ensures.changed items i new))

pub returns-clause-row : goal.returns-clause-row
returns-clause-row c =
    let s : State = state_of c.args.state.now in
    let items : List TableState = c.args.state.now.tables.items in
    let i = c.actor-instance.result in
    let old : TableState = c.index_mut-table.result.now in
    let new : TableState = c.add_resource.new.table in
    let lt : i < length items = omega (arith, c.frames_have_instances.ensures.acts c.requires.runs.0 s c.args.top.now c.requires.runs.1.valid c.requires.top, c.tables_are_handles.ensures.count items, c.actor-instance.ensures) in
    let here : table_at s.tables i ≡ old.handles = c.tables_are_handles.ensures.read items i old lt c.index_mut-table.ensures.value in
    let added : AddsResource (table_at s.tables i) s.owners i c.args.resource c.in-Some.rep (Ok c.in-Ok.index) new.handles c.add_resource.new.owners.items = subst (λ (t : Handles). AddsResource t s.owners i c.args.resource c.in-Some.rep (Ok c.in-Ok.index) new.handles c.add_resource.new.owners.items) (sym here) c.in-Ok.ensures in
    made_at s c.args.top.now c.args.resource c.args.args.now c.in-Some.rep c.in-Ok.index new.handles c.add_resource.new.owners.items i c.set.new.self _ c.actor-instance.ensures c.in-Some.ensures.0 c.in-Some.ensures.1 (c.may_leave.ensures.0 cc) added c.set.ensures
    (ap (λ (ts : List Handles). record s { tables = ts; owners = c.add_resource.new.owners.items }) (c.tables_are_handles.ensures.changed items i new))

pub returns-clause-kept : goal.returns-clause-kept
returns-clause-kept c plan runs =
    let s : State = state_of c.args.state.now in
    let items : List TableState = c.args.state.now.tables.items in
    let i = c.actor-instance.result in
    let old : TableState = c.index_mut-table.result.now in
    let new : TableState = c.add_resource.new.table in
    let lt : i < length items = omega (arith, c.frames_have_instances.ensures.acts c.requires.runs.0 s c.args.top.now c.requires.runs.1.valid c.requires.top, c.tables_are_handles.ensures.count items, c.actor-instance.ensures) in
    let here : table_at s.tables i ≡ old.handles = c.tables_are_handles.ensures.read items i old lt c.index_mut-table.ensures.value in
    let same : (call : ℕ) → borrows_of call new.handles ≡ borrows_of call (table_at s.tables i) = λ call.
    ap (λ (t : Handles). borrows_of call t) c.in-Ok.ensures.2
    ∙ (made_same c.borrows_are_counted.ensures.add old.handles c.args.resource (length s.owners) c.in-Some.rep call (subst IsSoundHandles here (runs.valid.sound i)) ∙ ap (λ (t : Handles). borrows_of call t) (sym here)) in
    let counted = c.what_is_kept_stays.ensures.changed c.args.state.now.stack.borrows s.stack s.tables i new.handles runs.kept.counted same in
    record {
      counted = subst (λ (ts : List Handles). AreBorrowsCounted c.args.state.now.stack.borrows s.stack ts) (sym (c.tables_are_handles.ensures.changed items i new)) counted;
      encoded = runs.kept.encoded;
    }
