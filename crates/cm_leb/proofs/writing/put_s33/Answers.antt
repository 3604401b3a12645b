use Rattle.std.proofs.Common.{w64}
use Rattle.std.proofs.lemmas.Int.{to_z-of_z}
use Rattle.cm_leb.specs.NumbersWritten.{shortest_signed}
use Rattle.cm_leb.proofs.ShortestLaws.{shortest_signed-spells, shortest_signed-least, signed_appended}
use Rattle.cm_leb.proofs.writing.put_s33.Goals as goal

pub returns-clause-spelled : goal.returns-clause-spelled
returns-clause-spelled c = shortest_signed-spells c.args.value c.requires

pub returns-clause-shortest : goal.returns-clause-shortest
returns-clause-shortest c = λ bytes s. shortest_signed-least c.args.value bytes s

pub returns-clause-stands : goal.returns-clause-stands
returns-clause-stands c = signed_appended 33 c.args.out.now.items c.put_group.new.out.items (shortest_signed c.args.value) c.args.value c.put_group.result (shortest_signed-spells c.args.value c.requires) (rw (c.two_complement_digits.ensures, c.spelled_signed_length-length.ensures.digits, to_z-of_z w64 c.args.value c.ranges.value) at c.put_group.ensures.ok)
