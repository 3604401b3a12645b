use Rattle.std.proofs.Common.{ap, subst, ◌∙◌, length}
use Rattle.std.proofs.lemmas.List.{length-take}
use Rattle.cm_binary_grammar.specs.Reading.{IsInside}
use Rattle.cm_shims_plain.proofs.shims.read_shim_contents_of_size.Goals as goal

pub leave-requires : goal.leave-requires
leave-requires c = subst (λ n. IsInside n c.read_shim_contents_inside-outcome.result) (ap length c.part-part.ensures.rest ∙ length-take c.args.size c.args.bytes.now.rest.now) c.read_shim_contents_inside-outcome.ensures.inside
