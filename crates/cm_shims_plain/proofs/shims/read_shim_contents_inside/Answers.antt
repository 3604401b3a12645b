use Rattle.std.proofs.Common.{arith}
use Rattle.cm_binary_grammar.proofs.ReadingLaws.{inside_part}
use Rattle.cm_shims_plain.specs.Shims.{shim_contents}
use Rattle.cm_shims_plain.specs.Trees.{shim_section_tree}
use Rattle.cm_shims_plain.proofs.LawfulShims.{shim_contents_lawful}
use Rattle.cm_shims_plain.proofs.shims.read_shim_contents_inside.Goals as goal

pub returns-clause-inside : goal.returns-clause-inside
returns-clause-inside c = inside_part (shim_contents c.args.items) (shim_contents_lawful c.args.items) shim_section_tree c.args.end c.args.bytes.now c.read_shim_contents.result _ (λ i. omega (arith, c.type_inv.bytes i)) (omega arith) (rw (c.new.ensures.rest, c.new.ensures.end) at c.read_shim_contents.ensures)
