use Rattle.std.proofs.Common.{ap, map, ◌∙◌, subst, sym}
use Rattle.cm_types.specs.DefTypes.{declaration_tree, instance_def}
use Rattle.cm_validate_model.specs.Declarations.{instance_def_broken, instance_defined}
use Rattle.cm_validate_model.specs.Definitions.{instance_type}
use Rattle.cm_validate_model.specs.Items.{type_item}
use Rattle.cm_validate_model.specs.Reasons.{least}
use Rattle.cm_validate_model.specs.Spaces.{next_resource}
use Rattle.cm_validate_model.specs.CountedSpaces.{AreSpacesCounted}
use Rattle.cm_validate_types.specs.TypeScopes.{own_types}
use Rattle.cm_validate_spaces.specs.IndexSpaces.{funcs_in, types_in}
use Rattle.cm_validate_spaces.proofs.AnswerLaws.{component_stays, types_answer}
use Rattle.cm_validate_spaces.proofs.ResultLaws.{if_both}
use Rattle.cm_validate_spaces.proofs.TypeLaws.{counted_at, defined_is, defined_with}
use Rattle.cm_validate_spaces.proofs.spaces.IndexSpaces.define_instance.Goals as goal

pub returns : goal.returns
returns c =
    let w = c.args.self.now in
    let ds = map declaration_tree c.args.declarations.now in
    let x = type_item (instance_def ds) in
    let t = c.define_instance.new.scope in
    let n = c.resource_count-next.result in
    if_both _ _ _ c.define_instance.result
    (λ r fault defined. types_answer c.entries_stay.ensures.component c.first_layouts_stay.ensures.grown x w r w.component t
    (λ s k.
    let e = c.resource_count-next.ensures (types_in w) (funcs_in w) s k.component_is in
    fault ∙ ap (λ ts. least (instance_def_broken ts n ds)) (sym k.types_are) ∙ ap (λ m. least (instance_def_broken s.types m ds)) e)
    (component_stays x w r (c.others_add_nothing-2.ensures.instance_types ds))
    (λ s k.
    let e = c.resource_count-next.ensures (types_in w) (funcs_in w) s k.component_is in
    defined_with (own_types w.types) (own_types t) (λ m. instance_type (instance_defined s.types m ds)) n (next_resource s) r e
    (defined_is (own_types w.types) s.types (own_types t) (λ ts. instance_type (instance_defined ts n ds)) r k.types_are defined))
    c.define_instance.ensures.grown
    (λ s k.
    let e = c.resource_count-next.ensures (types_in w) (funcs_in w) s k.component_is in
    c.define_instance.ensures.settled (counted_at (own_types w.types) s n (sym e) k.types_are (subst AreSpacesCounted (sym k.component_is.reached.1) (c.resources_are_counted.ensures.before k.component_is.reached.0))) k.settled)
    (c.others_add_nothing.ensures.types (instance_def ds)))
    c.define_instance.ensures.fault c.define_instance.ensures.defined
