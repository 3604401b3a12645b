use Rattle.std.proofs.Common.{◌≡◌, sym, ◌∙◌}
use Rattle.cm_types.specs.DefTypes.{resource_def}
use Rattle.cm_validate_model.specs.Items.{type_item}
use Rattle.cm_validate_model.specs.Options.{guest_broken}
use Rattle.cm_validate_model.specs.Reasons.{if_found, least}
use Rattle.cm_validate_model.specs.Spaces.{Spaces}
use Rattle.cm_validate_spaces.specs.IndexSpaces.{funcs_in, types_in}
use Rattle.cm_validate_spaces.proofs.AnswerLaws.{core_at, faulty_answer}
use Rattle.cm_validate_spaces.proofs.TypeLaws.{one_answer}
use Rattle.cm_validate_spaces.proofs.spaces.IndexSpaces.define_resource.Goals as goal
use Rattle.cm_lemmas.proofs.Options.{is_none}

pub returns-then-is_some : goal.returns-then-is_some
returns-then-is_some c =
    let w = c.args.self.now in
    faulty_answer (type_item (resource_def c.args.destructor)) w c.destructor_fault-fault.result (sym c.is_some.ensures ∙ c.if-is_some.true) (λ s k. core_at w s (λ (v : Spaces). c.destructor_fault-fault.result ≡ least (if_found (guest_broken v.core_funcs) c.args.destructor)) k c.destructor_fault-fault.ensures)

pub returns : goal.returns
returns c =
    let w = c.args.self.now in
    one_answer c.entries_stay.ensures.component c.first_layouts_stay.ensures.grown (type_item (resource_def c.args.destructor)) w c.define_resource.new.self c.in_ok-ty.ty c.add.new.self
    (λ s k. sym (is_none c.destructor_fault-fault.result (sym c.is_some.ensures ∙ c.if-is_some.false)) ∙ core_at w s (λ (v : Spaces). c.destructor_fault-fault.result ≡ least (if_found (guest_broken v.core_funcs) c.args.destructor)) k c.destructor_fault-fault.ensures)
    (λ s k. c.in_ok-ty.ensures.added (types_in w) (funcs_in w) s k.component_is)
    (λ s k. c.in_ok-ty.ensures.ty (types_in w) (funcs_in w) s k.component_is)
    (record { own = c.in_ok-add.ensures.added; entries = c.in_ok-add.ensures.entries; types = c.add.ensures.types; funcs = c.add.ensures.funcs })
    (λ s k. c.in_ok-ty.ensures.settled (types_in w) (funcs_in w)) (c.others_add_nothing.ensures.types (resource_def c.args.destructor))
