use Rattle.std.proofs.Common.{arith}
use Rattle.cm_binary_grammar.specs.declared.fault.End.TheVariants as end
use Rattle.cm_binary_grammar.proofs.ReadingLaws.{inside_part}
use Rattle.cm_bundle.specs.declared.fault.BundleReason.TheVariants.{Truncated}
use Rattle.cm_bundle.specs.Bundles.{bundle}
use Rattle.cm_bundle.specs.Trees.{bundle_tree}
use Rattle.cm_bundle.proofs.FrontLaws.{bundle_lawful}
use Rattle.cm_bundle.proofs.reading.read_inside.Goals as goal

pub returns-clause-inside : goal.returns-clause-inside
returns-clause-inside c = inside_part bundle bundle_lawful bundle_tree (end.Cut Truncated) c.args.bytes.now c.read_whole.result _ (λ i. omega (arith, c.type_inv.bytes i)) (omega arith) c.read_whole.ensures
