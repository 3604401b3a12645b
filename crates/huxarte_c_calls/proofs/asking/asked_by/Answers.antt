use Rattle.cm_abi_model.specs.Answered.{all_requests}
use Rattle.cm_abi_model.specs.Views.{params}
use Rattle.huxarte_c_calls.specs.Calls.{view_of}
use Rattle.huxarte_c_calls.proofs.RequestLaws.{memory_refused, rows_asked}
use Rattle.huxarte_c_calls.proofs.asking.asked_by.Goals as goal

pub returns-in-Ok-clause-rows : goal.returns-in-Ok-clause-rows
returns-in-Ok-clause-rows c = λ handles types are is.
    let call = c.args.call.now in
    let w = view_of call c.args.memory.now handles in
    let s = c.in-Ok.ensures handles types are is in
    rows_asked call c.args.memory.now handles types s.0 (all_requests c.scan_call.new.kept.parts) _ s.1.lifts.1.denoted
    (c.one_copied_call.ensures.asked w call.encodings.target params types call.slots.items s.0 _ _ s.1)
    c.requests_for.ensures.rows

pub returns-in-Ok-clause-refused : goal.returns-in-Ok-clause-refused
returns-in-Ok-clause-refused c = λ handles types are is.
    memory_refused c.args.call.now c.args.memory.now handles types _ c.requests_for.ensures.refused

pub requests_for-requires : goal.requests_for-requires
requests_for-requires c =
    let handed = c.requires.table in
    let types = c.requires.call in
    (c.in-Ok.ensures handed.0 types.0 handed.1 types.1).1.unanswered
