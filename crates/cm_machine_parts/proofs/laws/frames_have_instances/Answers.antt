use Rattle.std.proofs.Common.{arith}
use Rattle.cm_machine_parts.proofs.Standing.{acts, unborrowed}
use Rattle.cm_machine_parts.proofs.laws.frames_have_instances.Goals as goal
use Rattle.cm_machine_model.proofs.ValidLaws.{frame_within}

pub returns-clause-acts : goal.returns-clause-acts
returns-clause-acts c = λ plan s top valid is. omega (arith, acts plan s.stack top valid.stack is, valid.tables)

pub returns-clause-unborrowed : goal.returns-clause-unborrowed
returns-clause-unborrowed c = λ plan s i valid. unborrowed plan s i valid (λ t call none. (c.borrows_are_counted.ensures.none t call).1 none)

pub returns-clause-places : goal.returns-clause-places
returns-clause-places c = frame_within
