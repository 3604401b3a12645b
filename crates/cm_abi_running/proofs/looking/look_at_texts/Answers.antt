use Rattle.std.proofs.Common.{◌+◌, Err, Ok, refl}
use Rattle.std.proofs.lemmas.Result.{err_from_is_err_and}
use Rattle.cm_abi_load.specs.Outcomes.{state_of}
use Rattle.cm_abi_load.specs.Reading.{source_of}
use Rattle.cm_abi_programs.specs.Checks.{one_check, text_check}
use Rattle.cm_abi_running.specs.Checking.{all_checked, in_memory}
use Rattle.cm_abi_running.proofs.LookingLemmas.{keeps_all, row_halt, row_turn}
use Rattle.cm_abi_running.proofs.RoomLemmas.{next_row}
use Rattle.cm_abi_running.proofs.TextRowLemmas.{one_text}
use Rattle.cm_abi_running.proofs.looking.look_at_texts.Goals as goal

pub returns-in_err-look_at_text : goal.returns-in_err-look_at_text
returns-in_err-look_at_text c =
    let p = err_from_is_err_and c.from_residual.result c.from_residual.ensures.1 in
    rw (p.1, p.2) (row_halt (all_checked (source_of c.args.reader.now.giver) c.args.reader.now.maker.target (in_memory c.args.reader.now.giver.memory.now) (one_check (text_check c.args.behind))) c.args.distance (λ q u. keeps_all (source_of c.args.reader.now.giver) c.args.reader.now.maker.target (in_memory c.args.reader.now.giver.memory.now) (one_check (text_check c.args.behind)) q u) c.args.count c.loop.counter c.loop.next _ c.args.records.now.items c.loop.records.items (state_of c.args.progress.now) (state_of c.loop.progress) (state_of c.look_at_text.new.progress) c.in_err-look_at_text.field-0.0
    c.loop-test.true c.loop.invariant.1 (one_text (source_of c.args.reader.now.giver) c.args.reader.now.maker.target (in_memory c.args.reader.now.giver.memory.now) c.args.behind c.loop.next c.number_32-pointer.result c.number_32-tagged.result (state_of c.loop.progress) (state_of c.look_at_text.new.progress) c.loop.records.items c.look_at_text.new.records.items (Err c.in_err-look_at_text.field-0.0) c.number_32-pointer.ensures c.number_32-tagged.ensures c.in_err-look_at_text.ensures))

pub loop-preserved : goal.loop-preserved
loop-preserved c = (
  next_row c.loop.next c.args.at c.loop.counter c.args.distance c.loop.invariant.0,
  row_turn (all_checked (source_of c.args.reader.now.giver) c.args.reader.now.maker.target (in_memory c.args.reader.now.giver.memory.now) (one_check (text_check c.args.behind))) c.args.distance (λ q u. keeps_all (source_of c.args.reader.now.giver) c.args.reader.now.maker.target (in_memory c.args.reader.now.giver.memory.now) (one_check (text_check c.args.behind)) q u) c.args.count c.loop.counter c.loop.next (c.loop.next + c.args.distance) _ c.args.records.now.items c.loop.records.items c.look_at_text.new.records.items (state_of c.args.progress.now) (state_of c.loop.progress) (state_of c.look_at_text.new.progress)
      c.loop-test.true refl c.loop.invariant.1 (one_text (source_of c.args.reader.now.giver) c.args.reader.now.maker.target (in_memory c.args.reader.now.giver.memory.now) c.args.behind c.loop.next c.number_32-pointer.result c.number_32-tagged.result (state_of c.loop.progress) (state_of c.look_at_text.new.progress) c.loop.records.items c.look_at_text.new.records.items (Ok tt) c.number_32-pointer.ensures c.number_32-tagged.ensures c.in_ok-look_at_text.ensures),
)
