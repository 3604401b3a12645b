use Rattle.std.proofs.Common.{arith, map}
use Rattle.cm_binary_grammar.proofs.ReadingLaws.{inside_part}
use Rattle.cm_shims_plain.specs.Trees.{wide_section_tree}
use Rattle.cm_shims_plain.specs.File.{wide_component}
use Rattle.cm_shims_plain.proofs.LawfulFile.{wide_component_lawful}
use Rattle.cm_shims_plain.proofs.file.read_unlimited_file.Goals as goal

pub returns-clause-inside : goal.returns-clause-inside
returns-clause-inside c = inside_part wide_component wide_component_lawful (λ v. map wide_section_tree v.items) c.args.end c.args.bytes.now c.read_preamble_and_sections.result _ (λ i. omega (arith, c.type_inv.bytes i)) (omega arith) c.read_preamble_and_sections.ensures
