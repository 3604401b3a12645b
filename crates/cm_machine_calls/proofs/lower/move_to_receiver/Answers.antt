use Rattle.std.proofs.Common.{◌≡◌, ◌<◌, ◌∙◌, ap, sym, subst, ℕ, List, length, arith}
use Rattle.std.specs.Prelude.{Option, slice_set}
use Rattle.cm_handles.specs.Handles.{Handles, no_handles}
use Rattle.cm_abi_model.specs.Copies.{IsFaultOfCopying, handles_of_values}
use Rattle.cm_abi_model.specs.Giving.{Gives}
use Rattle.cm_abi_model.specs.HandleLeaves.{leaves_of}
use Rattle.cm_abi_model.specs.Receives.{HandleLeaf}
use Rattle.cm_abi_model.specs.Scanned.{Scanned}
use Rattle.cm_abi_model.specs.Views.{flat_limit}
use Rattle.cm_abi_model.specs.Ways.{way_of}
use Rattle.cm_abi_programs.specs.CallPuts.{call_puts_of}
use Rattle.cm_abi_model.specs.declared.receiver.Receiver.{Receiver}
use Rattle.cm_machine_model.specs.declared.event.Trap.{Trap}
use Rattle.cm_machine_model.specs.Memories.{memory_at}
use Rattle.cm_machine_model.specs.Plan.{types_of}
use Rattle.cm_machine_model.specs.State.{Passage, State, table_at}
use Rattle.cm_machine_model.specs.Step.{giver_of, owners_given}
use Rattle.cm_machine_parts.specs.States.{handles_in, state_of}
use Rattle.cm_machine_calls.specs.Going.{passage_now}
use Rattle.cm_abi_copy.specs.Copies.{IsCopied}
use Rattle.cm_machine_calls.specs.Handing.{StopsHanding}
use Rattle.cm_machine_calls.proofs.GoingLaws.{can_copy, giver_there, handed_same, receiver_there, sides_apart}
use Rattle.cm_machine_calls.proofs.HandingLaws.{all_are, apart_is, handed_is, numbers_are, room_is, stopped, table_is}
use Rattle.cm_machine_calls.proofs.Pairs.{at_same}
use Rattle.cm_machine_calls.proofs.Tables.{none_when, unchanged_by}
use Rattle.cm_machine_calls.proofs.lower.move_to_receiver.Goals as goal
use Rattle.cm_abi_model.proofs.ReceivesLaws.{few_kinds}
use Rattle.cm_machine_parts.proofs.Standing.{table_read}
use Rattle.cm_machine_parts.proofs.Tables.{length_handles, handles_set}

pub index_mut-table-requires : goal.index_mut-table-requires
index_mut-table-requires c =
    let x = c.requires.on in
    let h = x.6 in
    omega (arith, receiver_there x.0 x.1 (way_of c.args.way) x.2 (length h.on.under.below) h.on.under.link h.on.under.caller, ap (λ (r : Receiver). r.instance) h.to_is, h.on.under.tables)

pub copy_between-requires-clause-copied : goal.copy_between-requires-clause-copied
copy_between-requires-clause-copied c =
    let x = c.requires.on in
    let h = x.6 in (
      h.on.under.carried.view,
      x.4,
      types_of x.1 (way_of c.args.way),
      x.3,
      can_copy c.records_ask_for_parts.ensures.call x.0 c.args.state.now x.1 (record { way = c.args.way; layout = c.layout_of-layout.result; slots = c.as_slice.result }) x.2 x.3 x.4 c.args.giver c.args.to
          c.kinds_of-kinds.result.now h (c.layout_of-layout.ensures x.1 x.5) c.as_slice.ensures (c.kinds_of-kinds.ensures x.1 x.5),
    )

pub copy_between-requires-clause-apart : goal.copy_between-requires-clause-apart
copy_between-requires-clause-apart c =
    let x = c.requires.on in
    let h = x.6 in
    λ e. sides_apart x.0 x.1 (way_of c.args.way) x.2 (length h.on.under.below) h.on.under.link (sym h.giver_is ∙ e ∙ ap (λ (r : Receiver). r.instance) h.to_is)

pub copy_between-requires-clause-giver : goal.copy_between-requires-clause-giver
copy_between-requires-clause-giver c =
    let x = c.requires.on in
    let h = x.6 in
    omega (arith, giver_there x.0 x.1 (way_of c.args.way) x.2 h.on.under.link h.on.under.caller, h.giver_is, h.on.under.memories)

pub copy_between-requires-clause-receiver : goal.copy_between-requires-clause-receiver
copy_between-requires-clause-receiver c =
    let x = c.requires.on in
    let h = x.6 in
    omega (arith, receiver_there x.0 x.1 (way_of c.args.way) x.2 (length h.on.under.below) h.on.under.link h.on.under.caller, ap (λ (r : Receiver). r.instance) h.to_is, h.on.under.memories)

pub copy_between-requires-clause-kinds : goal.copy_between-requires-clause-kinds
copy_between-requires-clause-kinds c =
    let x = c.requires.on in
    omega (arith, ap length (c.kinds_of-kinds.ensures x.1 x.5), few_kinds (way_of c.args.way) (types_of x.1 (way_of c.args.way)))

pub copy_between-requires-clause-puts : goal.copy_between-requires-clause-puts
copy_between-requires-clause-puts c =
    let x = c.requires.on in
    c.puts_of-puts.ensures x.1 x.5 ∙ ap (call_puts_of (flat_limit (way_of c.args.way))) (sym (c.layout_of-layout.ensures x.1 x.5))

pub returns-in-Err-clause-unchanged : goal.returns-in-Err-clause-unchanged
returns-in-Err-clause-unchanged c =
    let x = c.requires.on in
    let h = x.6 in
    let state = c.args.state.now in
    let i = c.args.to.instance in
    let there : i < length state.tables.items = omega (arith, receiver_there x.0 x.1 (way_of c.args.way) x.2 (length h.on.under.below) h.on.under.link h.on.under.caller, ap (λ (r : Receiver). r.instance) h.to_is, h.on.under.tables) in
    let table = table_read state.tables.items i c.index_mut-table.result.now there c.index_mut-table.ensures.value in
    unchanged_by state c.copy_between.new.memories i c.copy_between.new.table c.copy_between.new.kept c.copy_between.new.kept.numbers c.in-Err.ensures.memories_stay (c.in-Err.ensures.table_stays ∙ sym table) c.copy_between.ensures.kept_stays

pub returns-in-Err-clause-moves : goal.returns-in-Err-clause-moves
returns-in-Err-clause-moves c = λ plan l call v answers is h.
    let way = way_of c.args.way in
    let state = c.args.state.now in
    let s : State = state_of state in
    let to = c.args.to in
    let scan = state.passing.scan in
    let there : to.instance < length state.tables.items = omega (arith, receiver_there plan l way call (length h.on.under.below) h.on.under.link h.on.under.caller, ap (λ (r : Receiver). r.instance) h.to_is, h.on.under.tables) in
    let table = table_read state.tables.items to.instance c.index_mut-table.result.now there c.index_mut-table.ensures.value in
    let fault : IsFaultOfCopying scan.parts answers to (table_at s.tables to.instance) (handles_of_values (types_of l way) v) c.in-Err.fault =
    subst (λ (t : Handles). IsFaultOfCopying scan.parts answers to t (handles_of_values (types_of l way) v) c.in-Err.fault) (sym table) (c.in-Err.ensures.copied h.on.under.carried.view answers (types_of l way) v (can_copy c.records_ask_for_parts.ensures.call plan state l (record { way = c.args.way; layout = c.layout_of-layout.result; slots = c.as_slice.result }) call v answers c.args.giver to c.kinds_of-kinds.result.now h (c.layout_of-layout.ensures l is) c.as_slice.ensures (c.kinds_of-kinds.ensures l is))) in
    let all = all_are c.records_ask_for_parts.ensures.call (memory_at s.memories (giver_of way l call)) l way state.passing.slots scan v h.on.under.encoded.0 h.on.under.encoded.1 h.on.under.carried in
    subst (λ (t : Trap). StopsHanding s l way to (passage_now state) v answers t) (sym c.trap_of.ensures)
    (stopped s l way to state.passing.slots scan v answers h.on.under.encoded.1 all h.on.under.answered h.on.under.carried.handles c.in-Err.fault fault)

pub returns-clause-moves : goal.returns-clause-moves
returns-clause-moves c = λ plan l call v answers is h.
    let way = way_of c.args.way in
    let state = c.args.state.now in
    let s : State = state_of state in
    let to = c.args.to in
    let scan = state.passing.scan in
    let slots = state.passing.slots in
    let numbers = c.copy_between.new.kept.numbers in
    let new = c.copy_between.new.table.handles in
    let values = c.copy_between.new.values in
    let there : to.instance < length state.tables.items = omega (arith, receiver_there plan l way call (length h.on.under.below) h.on.under.link h.on.under.caller, ap (λ (r : Receiver). r.instance) h.to_is, h.on.under.tables) in
    let inside : to.instance < length s.tables = omega (arith, there, length_handles state.tables.items) in
    let also : to.instance < length s.memories = omega (arith, receiver_there plan l way call (length h.on.under.below) h.on.under.link h.on.under.caller, ap (λ (r : Receiver). r.instance) h.to_is, h.on.under.memories) in
    let table = table_read state.tables.items to.instance c.index_mut-table.result.now there c.index_mut-table.ensures.value in
    let got = c.in-Ok.ensures.copied h.on.under.carried.view answers (types_of l way) v (can_copy c.records_ask_for_parts.ensures.call plan state l (record { way = c.args.way; layout = c.layout_of-layout.result; slots = c.as_slice.result }) call v answers c.args.giver to c.kinds_of-kinds.result.now h (c.layout_of-layout.ensures l is) c.as_slice.ensures (c.kinds_of-kinds.ensures l is)) in
    let copied : IsCopied to way (types_of l way) v scan.parts answers (memory_at s.memories to.instance) got.memory (table_at s.tables to.instance) new values numbers =
    subst (λ (t : Handles). IsCopied to way (types_of l way) v scan.parts answers (memory_at s.memories to.instance) got.memory t new values numbers) (sym table) got.copied in
    let all = all_are c.records_ask_for_parts.ensures.call (memory_at s.memories (giver_of way l call)) l way slots scan v h.on.under.encoded.0 h.on.under.encoded.1 h.on.under.carried in
    let target = h.on.under.encoded.1 in
    let has = h.on.under.answered in
    let leaves = h.on.under.carried.handles in
    let is_table = table_is s l way to slots scan v answers target all has leaves got.memory new values numbers inside also copied in
    let is_numbers = numbers_are s l way to slots scan v answers target all has leaves got.memory new values numbers inside also copied in
    let tables : handles_in (slice_set state.tables.items to.instance c.copy_between.new.table) ≡ slice_set (handles_in state.tables.items) to.instance new = handles_set state.tables.items to.instance c.copy_between.new.table in
    let handles : leaves_of c.handles.result.now ≡ scan.handles = c.handles.ensures ∙ ap (λ (k : Scanned). k.handles) c.copy_between.ensures.kept_stays in
    let owners = c.place_owned.ensures ∙ ap (λ (x : List HandleLeaf). owners_given to.instance x c.numbers.result.now state.owners.items) handles
    ∙ ap (λ (x : List ℕ). owners_given to.instance scan.handles x state.owners.items) (c.numbers.ensures ∙ is_numbers) in
    record {
      apart = apart_is s l way to slots scan v answers target all has leaves got.memory new values numbers inside also copied;
      room = room_is s l way to slots scan v answers target all has leaves got.memory new values numbers inside also copied;
      memory = got.memory;
      handed = handed_is s l way to slots scan v answers target all has leaves got.memory new values numbers inside also copied;
      is = ap {B = State} (λ (o : Option Passage). record s { memories = c.copy_between.new.memories; tables = handles_in (slice_set state.tables.items to.instance c.copy_between.new.table); owners = c.place_owned.new.owners.items; passage = o })
          (none_when (record state.passing { scan = c.clear.new.self }) (ap (λ (k : Scanned). k.has_value) c.clear.ensures))
          ∙ handed_same s to (passage_now state) got.memory c.copy_between.new.memories (handles_in (slice_set state.tables.items to.instance c.copy_between.new.table)) c.place_owned.new.owners.items got.memories
          (tables ∙ ap (slice_set (handles_in state.tables.items) to.instance) is_table) owners;
      numbers = numbers;
      gives = subst (λ (t : Handles). Gives to (table_at s.tables to.instance) t scan.handles numbers)
          (sym (ap (λ (x : List Handles). table_at x to.instance) tables ∙ at_same (handles_in state.tables.items) to.instance new no_handles inside))
          (subst (λ (x : List HandleLeaf). Gives to (table_at s.tables to.instance) new x numbers) (sym leaves) copied.gives);
    }
