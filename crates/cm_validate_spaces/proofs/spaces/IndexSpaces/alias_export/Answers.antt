use Rattle.std.proofs.Common.{subst}
use Rattle.cm_binary_model.specs.Trees.{instance_export}
use Rattle.cm_validate_entries.specs.ComponentSpaces.{AnswersAlias}
use Rattle.cm_validate_entries.specs.declared.aliases.Aliased.{Aliased}
use Rattle.cm_validate_spaces.specs.IndexSpaces.{funcs_in, types_in}
use Rattle.cm_validate_spaces.proofs.TypeLaws.{broken_alias, func_alias, type_alias}
use Rattle.cm_validate_spaces.proofs.spaces.IndexSpaces.alias_export.Goals as goal

pub add-requires : goal.add-requires
add-requires c =
    let w = c.args.self.now in
    let a = subst (λ (r : Aliased). AnswersAlias (instance_export c.args.sort c.args.instance c.args.name.now) w.component r c.alias.new.self) c.in-Type.is c.in_ok-reason.ensures.answer in
    record { there = a.there (types_in w) (funcs_in w) c.requires.0 c.requires.1.component_is }

pub returns-in-Broken : goal.returns-in-Broken
returns-in-Broken c =
    let w = c.args.self.now in
    let t = instance_export c.args.sort c.args.instance c.args.name.now in
    broken_alias t w c.alias.new.self c.in-Broken.reason (subst (λ (r : Aliased). AnswersAlias t w.component r c.alias.new.self) c.in-Broken.is c.in_ok-reason.ensures.answer)

pub returns-in-Func : goal.returns-in-Func
returns-in-Func c =
    let w = c.args.self.now in
    let t = instance_export c.args.sort c.args.instance c.args.name.now in
    func_alias t w c.alias.new.self (c.others_add_nothing.ensures.aliases c.args.sort c.args.instance c.args.name.now) (subst (λ (r : Aliased). AnswersAlias t w.component r c.alias.new.self) c.in-Func.is c.in_ok-reason.ensures.answer)

pub returns-in_ok-add-in-Type : goal.returns-in_ok-add-in-Type
returns-in_ok-add-in-Type c =
    let w = c.args.self.now in
    let t = instance_export c.args.sort c.args.instance c.args.name.now in
    type_alias t w c.alias.new.self c.entries_stay.ensures.component c.first_layouts_stay.ensures.grown (c.others_add_nothing.ensures.aliases c.args.sort c.args.instance c.args.name.now) c.in-Type.ty c.add.new.self
    (subst (λ (r : Aliased). AnswersAlias t w.component r c.alias.new.self) c.in-Type.is c.in_ok-reason.ensures.answer)
    (record { own = c.in_ok-add-in-Type.ensures.added; entries = c.in_ok-add-in-Type.ensures.entries; types = c.add.ensures.types; funcs = c.add.ensures.funcs })
