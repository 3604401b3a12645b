use Rattle.std.proofs.Common.{◌≡◌, ℕ, List, true, map, sym, ap, ◌∙◌}
use Rattle.std.specs.List.{list_all}
use Rattle.cm_validate_core.specs.NameMaps.{entries_of}
use Rattle.cm_types.specs.Types.{Ty, FuncTy}
use Rattle.cm_types_arena.specs.Instances.{are_items_there, items_of}
use Rattle.cm_types_arena.specs.declared.instances.Item.{Item}
use Rattle.cm_validate_model.specs.Spaces.{items_of_members}
use Rattle.cm_validate_items.specs.InstanceTypes.{instance_type_of}
use Rattle.cm_validate_entries.specs.Entries.{are_members_there, is_member_there, members_of, named_member}
use Rattle.cm_validate.specs.Items.{member_item, moved_item}
use Rattle.cm_validate.proofs.ItemLaws.{if_items, members_are, members_there, moved_are, moved_there}
use Rattle.cm_validate.proofs.items.instance_items.Goals as goal

pub returns-in-Imported-clause-are : goal.returns-in-Imported-clause-are
returns-in-Imported-clause-are c =
    let by = c.in-Imported.by in
    let xs = c.deref-in-Imported.result.now in
    let same : xs ≡ (instance_type_of c.in-Imported.items.value).items.items = c.deref-in-Imported.ensures.value ∙ ap (λ t. t.items.items) (c.ty.ensures ∙ ap instance_type_of c.deref.ensures) in
    if_items c.moved_items.result (λ v. v.items) (map (moved_item by) xs)
    (λ (is : List Item). (types : List Ty) (funcs : List FuncTy) → items_of types funcs is ≡ items_of_members (members_of types funcs c.args.instance.now))
    (λ types funcs.
    ap (λ (ys : List Item). items_of types funcs (map (moved_item by) ys)) same
    ∙ moved_are types funcs c.in-Imported.import by 0 (instance_type_of c.in-Imported.items.value).items.items
    ∙ sym (ap (λ i. items_of_members (members_of types funcs i)) c.in-Imported.is))
    c.moved_items.ensures

pub returns-in-Imported-clause-there : goal.returns-in-Imported-clause-there
returns-in-Imported-clause-there c =
    let by = c.in-Imported.by in
    let xs = c.deref-in-Imported.result.now in
    let same : xs ≡ (instance_type_of c.in-Imported.items.value).items.items = c.deref-in-Imported.ensures.value ∙ ap (λ t. t.items.items) (c.ty.ensures ∙ ap instance_type_of c.deref.ensures) in
    if_items c.moved_items.result (λ v. v.items) (map (moved_item by) xs)
    (λ (is : List Item). (types funcs : ℕ) → are_members_there types funcs c.args.instance.now ≡ true → are_items_there types funcs is ≡ true)
    (λ types funcs h. moved_there types funcs by xs ∙ ap (are_items_there types funcs) same ∙ sym (ap (are_members_there types funcs) c.in-Imported.is) ∙ h)
    c.moved_items.ensures

pub returns-in-Exporting-clause-are : goal.returns-in-Exporting-clause-are
returns-in-Exporting-clause-are c =
    let es = entries_of c.deref-in-Exporting.result.now in
    if_items c.member_items.result (λ v. v.items) (map member_item es)
    (λ (is : List Item). (types : List Ty) (funcs : List FuncTy) → items_of types funcs is ≡ items_of_members (members_of types funcs c.args.instance.now))
    (λ types funcs.
    members_are types funcs es
    ∙ ap (λ m. items_of_members (map (named_member types funcs) (entries_of m))) c.deref-in-Exporting.ensures
    ∙ sym (ap (λ i. items_of_members (members_of types funcs i)) c.in-Exporting.is))
    c.member_items.ensures

pub returns-in-Exporting-clause-there : goal.returns-in-Exporting-clause-there
returns-in-Exporting-clause-there c =
    let es = entries_of c.deref-in-Exporting.result.now in
    if_items c.member_items.result (λ v. v.items) (map member_item es)
    (λ (is : List Item). (types funcs : ℕ) → are_members_there types funcs c.args.instance.now ≡ true → are_items_there types funcs is ≡ true)
    (λ types funcs h.
    members_there types funcs es
    (ap (λ m. list_all (λ e. is_member_there types funcs e.1) (entries_of m)) c.deref-in-Exporting.ensures
    ∙ sym (ap (are_members_there types funcs) c.in-Exporting.is) ∙ h))
    c.member_items.ensures
