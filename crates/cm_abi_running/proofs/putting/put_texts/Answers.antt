use Rattle.std.proofs.Common.{length}
use Rattle.cm_abi_programs.specs.Puts.{one_put, text_put}
use Rattle.cm_abi_running.specs.Copying.{copying_of}
use Rattle.cm_abi_running.specs.PutsReady.{ArePutsReady}
use Rattle.cm_abi_running.proofs.PuttingLemmas.{next_ready, next_row, only_text_writes, row_turn}
use Rattle.cm_abi_running.proofs.putting.put_texts.Goals as goal

pub put_text-requires-clause-ready : goal.put_text-requires-clause-ready
put_text-requires-clause-ready c =
    let ready : ArePutsReady (length c.loop.memory) (copying_of c.args.from.now) (one_put (text_put c.args.behind)) c.loop.start c.loop.to c.loop.next.part c.loop.next.handle =
    next_ready (copying_of c.args.from.now) (one_put (text_put c.args.behind)) c.args.distance c.args.count c.loop.counter c.loop.start c.loop.to _ c.loop.next c.args.memory.now c.loop.memory c.loop-test.true c.loop.invariant.row in
    ready.0

pub loop-preserved : goal.loop-preserved
loop-preserved c =
    record {
      start = next_row c.loop.start c.args.source c.loop.counter c.args.distance c.loop.invariant.start;
      to = next_row c.loop.to c.args.at c.loop.counter c.args.distance c.loop.invariant.to;
      row = row_turn (copying_of c.args.from.now) (one_put (text_put c.args.behind)) c.args.distance c.args.count c.loop.counter c.loop.start c.loop.to _ c.loop.next c.args.memory.now c.loop.memory c.loop-test.true c.loop.invariant.row
          c.put_text.new.next c.put_text.new.memory
          (only_text_writes (copying_of c.args.from.now) c.args.behind c.loop.start c.loop.to c.loop.next.part c.loop.next.handle c.put_text.new.next c.loop.memory c.put_text.new.memory c.put_text.ensures);
    }
