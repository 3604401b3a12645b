use Rattle.std.proofs.Common.{◌^◌, ◌∙◌, ap}
use Rattle.cm_handles.specs.Handles.{Handles, after_add, next_index}
use Rattle.huxarte_c_calls.specs.HandedOver.{handles_of}
use Rattle.huxarte_c_calls.proofs.HandleLaws.{handles_more, lends_more, no_room}
use Rattle.huxarte_c_calls.proofs.handles.add_handle.Goals as goal

pub returns-in-Ok-clause-handles : goal.returns-in-Ok-clause-handles
returns-in-Ok-clause-handles c = λ hs is.
    c.in-Ok.ensures.handles
    ∙ (ap (λ (t : Handles). after_add t c.handle_of.result) is ∙ (ap (after_add (handles_of hs)) c.handle_of.ensures.value ∙ handles_more hs c.args.given.now))

pub returns-in-Ok-clause-lends : goal.returns-in-Ok-clause-lends
returns-in-Ok-clause-lends c = λ few.
    lends_more (2 ^ 100) c.args.table.now.handles c.add.new.self.handles (next_index c.args.table.now.handles) c.handle_of.result c.in-Ok.ensures.changes c.handle_of.ensures.lends few

pub returns-in-Err-clause-refused : goal.returns-in-Err-clause-refused
returns-in-Err-clause-refused c = λ hs is.
    no_room hs c.args.given.now c.args.table.now.handles c.in-Err.fault is c.in-Err.ensures.full c.in-Err.ensures.no_other
