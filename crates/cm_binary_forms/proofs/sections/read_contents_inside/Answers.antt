use Rattle.std.proofs.Common.{arith}
use Rattle.cm_binary_grammar.proofs.ReadingLaws.{inside_part}
use Rattle.cm_binary_forms.specs.Contents.{contents_tree}
use Rattle.cm_binary_forms.specs.Sections.{contents}
use Rattle.cm_binary_forms.proofs.LawfulSections.{contents_lawful}
use Rattle.cm_binary_forms.proofs.sections.read_contents_inside.Goals as goal

pub returns-clause-inside : goal.returns-clause-inside
returns-clause-inside c = inside_part (contents c.args.room c.args.kind) (contents_lawful c.args.room c.args.kind) contents_tree c.args.end c.args.bytes.now c.read_contents.result _ (λ i. omega (arith, c.type_inv.bytes i)) (omega arith) (rw (c.new.ensures.rest, c.new.ensures.end) at c.read_contents.ensures)
