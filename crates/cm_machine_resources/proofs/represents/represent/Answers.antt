use Rattle.std.proofs.Common.{◌≡◌, ◌<◌, List, length, Ok, Err, sym, ap, ◌∙◌, arith}
use Rattle.cm_handles.specs.Handles.{Handles, TableState, look_up}
use Rattle.cm_machine_model.specs.State.{State, table_at}
use Rattle.cm_machine_parts.specs.States.{state_of}
use Rattle.cm_machine_resources.proofs.Telling.{told_at, told_fault_at}
use Rattle.cm_machine_resources.proofs.represents.represent.Goals as goal

pub returns-in-Ok : goal.returns-in-Ok
returns-in-Ok c =
    let s : State = state_of c.args.state.now in
    let items : List TableState = c.args.state.now.tables.items in
    let i = c.actor-instance.result in
    let lt : i < length items = omega (arith, c.frames_have_instances.ensures.acts c.requires.runs.0 s c.args.top.now c.requires.runs.1.valid c.requires.top, c.tables_are_handles.ensures.count items, c.actor-instance.ensures) in
    let here : table_at s.tables i ≡ c.index-table.result.now.handles = c.tables_are_handles.ensures.read items i c.index-table.result.now lt c.index-table.ensures in
    let found : look_up (table_at s.tables i) c.in-Some.index c.args.resource ≡ Ok c.in-Ok.handle = ap (λ (t : Handles). look_up t c.in-Some.index c.args.resource) here ∙ (sym c.get.ensures.answer ∙ c.in-Ok.is) in
    told_at s c.args.top.now c.args.resource c.args.args.now c.in-Some.index c.in-Ok.handle i c.set.new.self c.actor-instance.ensures c.in-Some.ensures.0 c.in-Some.ensures.1 found c.set.ensures

pub returns-in-Err : goal.returns-in-Err
returns-in-Err c =
    let s : State = state_of c.args.state.now in
    let items : List TableState = c.args.state.now.tables.items in
    let i = c.actor-instance.result in
    let lt : i < length items = omega (arith, c.frames_have_instances.ensures.acts c.requires.runs.0 s c.args.top.now c.requires.runs.1.valid c.requires.top, c.tables_are_handles.ensures.count items, c.actor-instance.ensures) in
    let here : table_at s.tables i ≡ c.index-table.result.now.handles = c.tables_are_handles.ensures.read items i c.index-table.result.now lt c.index-table.ensures in
    let found : look_up (table_at s.tables i) c.in-Some.index c.args.resource ≡ Err c.in-Err.fault = ap (λ (t : Handles). look_up t c.in-Some.index c.args.resource) here ∙ (sym c.get.ensures.answer ∙ c.in-Err.is) in
    told_fault_at s c.args.top.now c.args.resource c.args.args.now c.in-Some.index c.in-Err.fault i c.trap_of_handle.result c.actor-instance.ensures c.in-Some.ensures.0 c.in-Some.ensures.1 found c.trap_of_handle.ensures
