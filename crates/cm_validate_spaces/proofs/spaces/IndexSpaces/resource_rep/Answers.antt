use Rattle.std.proofs.Common.{length, refl, subst, sym}
use Rattle.cm_binary_model.specs.Trees.{CanonTree}
use Rattle.cm_validate_spaces.specs.IndexSpaces.{funcs_in, types_in}
use Rattle.cm_validate_spaces.specs.Making.{Makes}
use Rattle.cm_validate_spaces.proofs.AnswerLaws.{types_at}
use Rattle.cm_validate_spaces.proofs.spaces.IndexSpaces.resource_rep.Goals as goal

pub make-requires : goal.make-requires
make-requires c =
    let w = c.args.self.now in
    let at = types_at w c.entries-types.result.now c.entries-types.ensures.entries c.entries-types.ensures.placed in
    subst (λ (t : CanonTree). Makes w t c.own_resource_fault-fault.result c.reading-made.result) (sym c.requires)
    (record {
      fault_is = λ s k. c.own_resource_fault-fault.ensures.reading (types_in w) (funcs_in w) s k.component_is (at s k);
      made_is = λ s k. c.reading-made.ensures.def (funcs_in w) s k.types_are;
      there = λ s k. c.reading-made.ensures.there (length (funcs_in w));
      makes = refl;
      others = c.others_add_nothing.ensures.reading c.args.resource;
    })
