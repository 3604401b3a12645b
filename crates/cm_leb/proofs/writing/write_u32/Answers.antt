use Rattle.std.proofs.Common.{arith}
use Rattle.cm_leb.specs.NumbersWritten.{shortest_unsigned}
use Rattle.cm_leb.proofs.ShortestLaws.{shortest_unsigned-spells, shortest_unsigned-least, unsigned_appended}
use Rattle.cm_leb.proofs.writing.write_u32.Goals as goal

pub returns-clause-spelled : goal.returns-clause-spelled
returns-clause-spelled c = shortest_unsigned-spells c.args.value (omega arith)

pub returns-clause-shortest : goal.returns-clause-shortest
returns-clause-shortest c = λ bytes s. shortest_unsigned-least c.args.value bytes s

pub returns-clause-stands : goal.returns-clause-stands
returns-clause-stands c = unsigned_appended 32 c.args.out.now.items c.put_group.new.out.items (shortest_unsigned c.args.value) c.args.value c.put_group.result (shortest_unsigned-spells c.args.value (omega arith)) (rw (c.spelled_length.ensures.digits) at c.put_group.ensures.ok)
