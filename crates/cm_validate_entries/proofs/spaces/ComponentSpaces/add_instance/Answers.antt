use Rattle.std.proofs.Common.{◌≡◌, ◌++◌, ap, ◌∙◌, subst, map, length}
use Rattle.cm_types_arena.specs.declared.instances.InstanceType.{InstanceType}
use Rattle.cm_validate_model.specs.Definitions.{brought}
use Rattle.cm_validate_items.specs.Items.{fresh_of}
use Rattle.cm_validate_items.specs.InstanceTypes.{instance_type_of}
use Rattle.cm_validate_items.specs.Resources.{resources_in}
use Rattle.cm_validate_entries.specs.Steps.{PushesInstance}
use Rattle.cm_validate_entries.specs.declared.entries.InstanceEntry.TheVariants as instance
use Rattle.cm_validate_entries.proofs.ImportLaws.{instance_imported}
use Rattle.cm_validate_entries.proofs.MoveLaws.{Laws}
use Rattle.cm_validate_entries.proofs.StepLaws.{on_ok}
use Rattle.cm_validate_entries.proofs.spaces.ComponentSpaces.add_instance.Goals as goal

pub returns : goal.returns
returns c =
    let laws : Laws = record {
      types_move = c.moves_of_what_is_counted.ensures.types;
      funcs_move = c.moves_of_what_is_counted.ensures.funcs;
      types_stay = c.moves_of_what_is_counted.ensures.stay;
      types_unmoved = c.unmoved.ensures.types;
      funcs_unmoved = c.unmoved.ensures.funcs;
    } in
    let old = c.args.self.now in
    let by = c.in-Some.by in
    let items = c.args.items.now in
    let held = c.in_ok-held.held in
    let number = c.import_count-import.ensures in
    let told : c.ty.result.now ≡ instance_type_of items.value = c.ty.ensures ∙ ap instance_type_of c.deref.ensures in
    let shared : c.in_ok-ty.ty.value ≡ instance_type_of items.value = c.in_ok-ty.ensures ∙ ap instance_type_of c.deref-2.ensures in
    let first : by.first ≡ (instance_type_of items.value).first = c.in-Some.ensures.0 ∙ ap (λ (v : InstanceType). v.first) told in
    let count : by.count ≡ (instance_type_of items.value).fresh = c.in-Some.ensures.1 ∙ ap (λ (v : InstanceType). v.fresh) told in
    let next : by.next ≡ length (resources_in old.resources) = c.in-Some.ensures.2 ∙ c.count-next.ensures in
    let pushes : PushesInstance (instance.Imported (length old.imports.items) held by) old c.push_instance.new.self =
    subst (λ n. PushesInstance (instance.Imported n held by) old c.push_instance.new.self) number c.in_ok-push_instance.ensures.pushed in
    let brings : resources_in c.bring.new.self ≡ resources_in c.push_instance.new.self.resources ++ map (brought (length old.imports.items)) (fresh_of (instance_type_of items.value)) =
    c.in_ok-bring.ensures.added
    ∙ ap (λ n. resources_in c.push_instance.new.self.resources ++ map (brought n) (fresh_of (instance_type_of c.in_ok-brought.brought.value))) number
    ∙ ap (λ v. resources_in c.push_instance.new.self.resources ++ map (brought (length old.imports.items)) (fresh_of (instance_type_of v))) c.in_ok-brought.ensures in
    on_ok c.add_import.result
    (λ added types funcs s es i r t is.
    instance_imported laws c.resources_are_counted.ensures.before types funcs old c.push_instance.new.self c.add_import.new.self c.bring.new.self s es i c.args.name r t items held c.in_ok-held.ensures by is
    c.in_ok-ty.ty shared first count next pushes brings (rw c.requires at added))
    c.add_import.ensures
