use Rattle.std.proofs.Common.{arith}
use Rattle.cm_binary_grammar.proofs.ReadingLaws.{inside_part}
use Rattle.cm_shims_plain.specs.Sections.{wide_contents}
use Rattle.cm_shims_plain.specs.Trees.{wide_section_tree}
use Rattle.cm_shims_plain.proofs.LawfulSections.{wide_contents_lawful}
use Rattle.cm_shims_plain.proofs.sections.read_wide_contents_inside.Goals as goal

pub returns-clause-inside : goal.returns-clause-inside
returns-clause-inside c = inside_part (wide_contents c.args.size c.args.room c.args.kind) (wide_contents_lawful c.args.size c.args.room c.args.kind) wide_section_tree c.args.end c.args.bytes.now c.read_wide_contents.result _ (λ i. omega (arith, c.type_inv.bytes i)) (omega arith) (rw (c.new.ensures.rest, c.new.ensures.end) at c.read_wide_contents.ensures)
