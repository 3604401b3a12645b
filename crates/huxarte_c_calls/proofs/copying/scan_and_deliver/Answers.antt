use Rattle.std.proofs.Common.{refl}
use Rattle.cm_abi_model.specs.Views.{params}
use Rattle.huxarte_c_calls.specs.Calls.{view_of}
use Rattle.huxarte_c_calls.proofs.CopyLaws.{copy_is, no_copy}
use Rattle.huxarte_c_calls.proofs.copying.scan_and_deliver.Goals as goal

pub returns-in_ok-scan_call-in-Ok-clause-copied : goal.returns-in_ok-scan_call-in-Ok-clause-copied
returns-in_ok-scan_call-in-Ok-clause-copied c = λ types is.
    let call = c.args.call.now in
    let memory = c.args.giver.now.memory.now in
    let handles = c.args.giver.now.handles.now in
    let w = view_of call memory handles in
    let s = c.in_ok-scan_call-in-Ok.ensures handles types c.in-Ok.ensures.handles is in
    copy_is call memory handles types c.args.taker.now.to c.args.taker.now.handles.now c.args.taker.now.answers.now _ _ s.0 _ c.deliver.result s.1.lifts.1.denoted
    (c.one_copied_call.ensures.asked w call.encodings.target params types call.slots.items s.0 _ _ s.1) (c.deliver.ensures.delivered w types s.0 _ is refl s.1)

pub returns-in_ok-scan_call-in-Ok-clause-refused : goal.returns-in_ok-scan_call-in-Ok-clause-refused
returns-in_ok-scan_call-in-Ok-clause-refused c = λ types is.
    let call = c.args.call.now in
    let memory = c.args.giver.now.memory.now in
    let handles = c.args.giver.now.handles.now in
    let w = view_of call memory handles in
    let s = c.in_ok-scan_call-in-Ok.ensures handles types c.in-Ok.ensures.handles is in
    no_copy call memory handles types c.args.taker.now.to c.args.taker.now.handles.now c.args.taker.now.answers.now
    (record { memory = c.args.memory.now; slots = c.args.slots.now; numbers = c.args.numbers.now }) s.0 _ c.deliver.result s.1.lifts.1.denoted
    (c.one_copied_call.ensures.asked w call.encodings.target params types call.slots.items s.0 _ _ s.1) (c.deliver.ensures.refused w types s.0 _ is refl s.1)
