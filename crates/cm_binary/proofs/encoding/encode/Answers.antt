use Rattle.cm_binary.proofs.EncodeLaws.{is_spelled, is_shortest}
use Rattle.cm_binary.proofs.File.{file_written}
use Rattle.cm_binary.proofs.encoding.encode.Goals as goal

pub returns-clause-spelled : goal.returns-clause-spelled
returns-clause-spelled c = is_spelled (λ v. v.items) c.args.component.now c.write_file.result (file_written c.args.component.now c.sections.ensures.limits c.sections.ensures.parts) (rw c.sections.ensures.sections at c.write_file.ensures)

pub returns-clause-shortest : goal.returns-clause-shortest
returns-clause-shortest c = is_shortest (λ v. v.items) c.args.component.now c.write_file.result (rw c.sections.ensures.sections at c.write_file.ensures)
