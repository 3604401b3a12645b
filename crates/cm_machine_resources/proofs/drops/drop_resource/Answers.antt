use Rattle.std.proofs.Common.{◌≡◌, ◌<◌, List, length, Ok, Err, sym, ap, ◌∙◌, arith}
use Rattle.cm_handles.specs.Handles.{Handles, TableState, if_not_lent, look_up}
use Rattle.cm_machine_model.specs.State.{State, table_at}
use Rattle.cm_machine_model.specs.Step.{Drops, DropsOwned}
use Rattle.cm_machine_parts.specs.States.{state_of}
use Rattle.cm_machine_resources.proofs.DroppingRows.{drop_borrowed_at, drop_fault_at, drop_owned_at}
use Rattle.cm_machine_resources.proofs.drops.drop_resource.Goals as goal
use Rattle.cm_machine_parts.proofs.RowsLaws.{meets_by}

pub returns-in-Err-clause-row : goal.returns-in-Err-clause-row
returns-in-Err-clause-row c =
    let s : State = state_of c.args.state.now in
    let items : List TableState = c.args.state.now.tables.items in
    let i = c.actor-instance.result in
    let lt : i < length items = omega (arith, c.frames_have_instances.ensures.acts c.requires.runs.0 s c.args.top.now c.requires.runs.1.valid c.requires.top, c.tables_are_handles.ensures.count items, c.actor-instance.ensures) in
    let here : table_at s.tables i ≡ c.index-table.result.now.handles = c.tables_are_handles.ensures.read items i c.index-table.result.now lt c.index-table.ensures in
    let found : if_not_lent (look_up (table_at s.tables i) c.in-Some.index c.args.resource) ≡ Err c.in-Err.fault = ap (λ (t : Handles). if_not_lent (look_up t c.in-Some.index c.args.resource)) here ∙ (sym c.find.ensures ∙ c.in-Err.is) in
    drop_fault_at s c.args.top.now c.args.resource c.args.destructor c.args.args.now c.in-Some.index c.in-Err.fault i c.trap_of_handle.result c.actor-instance.ensures c.in-Some.ensures.0 (c.may_leave.ensures.0 cc) c.in-Some.ensures.1 found c.trap_of_handle.ensures

pub drop_owned-requires-clause-found : goal.drop_owned-requires-clause-found
drop_owned-requires-clause-found c =
    let s : State = state_of c.args.state.now in
    let items : List TableState = c.args.state.now.tables.items in
    let i = c.actor-instance.result in
    let lt : i < length items = omega (arith, c.frames_have_instances.ensures.acts c.requires.runs.0 s c.args.top.now c.requires.runs.1.valid c.requires.top, c.tables_are_handles.ensures.count items, c.actor-instance.ensures) in
    let here : table_at s.tables i ≡ c.index-table.result.now.handles = c.tables_are_handles.ensures.read items i c.index-table.result.now lt c.index-table.ensures in
    (omega (arith, lt, c.tables_are_handles.ensures.count items), ap (λ (t : Handles). if_not_lent (look_up t c.in-Some.index c.args.resource)) here ∙ (sym c.find.ensures ∙ c.in-Ok.is))

pub drop_borrowed-requires-clause-found : goal.drop_borrowed-requires-clause-found
drop_borrowed-requires-clause-found c =
    let s : State = state_of c.args.state.now in
    let items : List TableState = c.args.state.now.tables.items in
    let i = c.actor-instance.result in
    let lt : i < length items = omega (arith, c.frames_have_instances.ensures.acts c.requires.runs.0 s c.args.top.now c.requires.runs.1.valid c.requires.top, c.tables_are_handles.ensures.count items, c.actor-instance.ensures) in
    let here : table_at s.tables i ≡ c.index-table.result.now.handles = c.tables_are_handles.ensures.read items i c.index-table.result.now lt c.index-table.ensures in
    (omega (arith, lt, c.tables_are_handles.ensures.count items), ap (λ (t : Handles). if_not_lent (look_up t c.in-Some.index c.args.resource)) here ∙ (sym c.find.ensures ∙ c.in-Ok.is))

pub returns-in-Owned-clause-row : goal.returns-in-Owned-clause-row
returns-in-Owned-clause-row c =
    let s : State = state_of c.args.state.now in
    let items : List TableState = c.args.state.now.tables.items in
    let i = c.actor-instance.result in
    let lt : i < length items = omega (arith, c.frames_have_instances.ensures.acts c.requires.runs.0 s c.args.top.now c.requires.runs.1.valid c.requires.top, c.tables_are_handles.ensures.count items, c.actor-instance.ensures) in
    let here : table_at s.tables i ≡ c.index-table.result.now.handles = c.tables_are_handles.ensures.read items i c.index-table.result.now lt c.index-table.ensures in
    let found : if_not_lent (look_up (table_at s.tables i) c.in-Some.index c.args.resource) ≡ Ok c.in-Ok.handle = ap (λ (t : Handles). if_not_lent (look_up t c.in-Some.index c.args.resource)) here ∙ (sym c.find.ensures ∙ c.in-Ok.is) in
    meets_by (DropsOwned s i c.args.resource c.args.destructor c.in-Some.index c.in-Ok.handle) (Drops s c.args.top.now c.args.resource c.args.destructor c.args.args.now) c.drop_owned.result c.drop_owned.new.values (state_of c.drop_owned.new.state)
    (drop_owned_at s c.args.top.now c.args.resource c.args.destructor c.args.args.now c.in-Some.index c.in-Ok.handle i c.actor-instance.ensures c.in-Some.ensures.0 (c.may_leave.ensures.0 cc) c.in-Some.ensures.1 found c.in-Owned.is)
    c.drop_owned.ensures.row

pub returns-in-Borrowed-clause-row : goal.returns-in-Borrowed-clause-row
returns-in-Borrowed-clause-row c =
    let s : State = state_of c.args.state.now in
    let items : List TableState = c.args.state.now.tables.items in
    let i = c.actor-instance.result in
    let lt : i < length items = omega (arith, c.frames_have_instances.ensures.acts c.requires.runs.0 s c.args.top.now c.requires.runs.1.valid c.requires.top, c.tables_are_handles.ensures.count items, c.actor-instance.ensures) in
    let here : table_at s.tables i ≡ c.index-table.result.now.handles = c.tables_are_handles.ensures.read items i c.index-table.result.now lt c.index-table.ensures in
    let found : if_not_lent (look_up (table_at s.tables i) c.in-Some.index c.args.resource) ≡ Ok c.in-Ok.handle = ap (λ (t : Handles). if_not_lent (look_up t c.in-Some.index c.args.resource)) here ∙ (sym c.find.ensures ∙ c.in-Ok.is) in
    drop_borrowed_at s c.args.top.now c.args.resource c.args.destructor c.args.args.now c.in-Some.index c.in-Ok.handle c.in-Borrowed.call i c.clear.new.self (state_of c.drop_borrowed.new.state) c.actor-instance.ensures c.in-Some.ensures.0 (c.may_leave.ensures.0 cc) c.in-Some.ensures.1 found c.in-Borrowed.is c.clear.ensures c.drop_borrowed.ensures.dropped
