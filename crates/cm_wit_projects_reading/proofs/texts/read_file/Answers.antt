use Rattle.cm_wit_projects_reading.specs.Files.{file}
use Rattle.cm_wit_projects_reading.specs.Texts.{source_reads, IsSourceOf, IsSourceFault}
use Rattle.cm_wit_projects_reading.specs.Views.{file_tree}
use Rattle.cm_wit_projects_reading.proofs.FileLaws.{file_lawful}
use Rattle.cm_wit_projects_reading.proofs.TextLaws.{source_accepted, source_complete, source_refused, answer_ok, answer_memory, answer_err}
use Rattle.cm_wit_projects_reading.proofs.texts.read_file.Goals as goal

pub returns-clause-accepted : goal.returns-clause-accepted
returns-clause-accepted c = answer_ok file_tree (source_reads file c.args.text.now) c.read_exactly.result (λ f. IsSourceOf file f c.args.text.now) c.read_exactly.ensures (source_accepted file file_lawful c.args.text.now)

pub returns-clause-complete : goal.returns-clause-complete
returns-clause-complete c = λ f s. answer_memory file_tree (source_reads file c.args.text.now) c.read_exactly.result f c.read_exactly.ensures (source_complete file file_lawful c.args.text.now f s)

pub returns-clause-refused : goal.returns-clause-refused
returns-clause-refused c = answer_err file_tree (source_reads file c.args.text.now) c.read_exactly.result (IsSourceFault file c.args.text.now) c.read_exactly.ensures (source_refused file file_lawful c.args.text.now)
