use Rattle.std.proofs.Common.{◌≡◌, Some, None, true, sym, ap, ◌∙◌, IfSome, map, subst}
use Rattle.std.specs.List.{list_all}
use Rattle.std.specs.Option.{option_map}
use Rattle.cm_validate_core.specs.NameMaps.{entries_of}
use Rattle.cm_types_arena.specs.Instances.{are_items_there}
use Rattle.cm_validate_model.specs.Spaces.{member_named}
use Rattle.cm_validate_items.specs.InstanceTypes.{instance_type_of}
use Rattle.cm_validate_items.specs.Items.{item_named}
use Rattle.cm_validate_entries.specs.Entries.{are_members_there, is_member_there, item_member, member_def, members_of, named_member}
use Rattle.cm_validate_entries.proofs.MemberLaws.{named_item, item_there, looked_up, looked_there}
use Rattle.cm_validate_entries.proofs.entries.InstanceEntry.member.Goals as goal
use Rattle.cm_lemmas.proofs.Options.{some_has}

pub returns-in_err-number-in-Imported-clause-def :
    goal.returns-in_err-number-in-Imported-clause-def
returns-in_err-number-in-Imported-clause-def c = λ types funcs.
    let import = c.in-Imported.import in
    let by = c.in-Imported.by in
    let name = c.args.name.now in
    let items = (instance_type_of c.in-Imported.items.value).items.items in
    let found : item_named 0 items name ≡ None = ap (λ i. item_named 0 (instance_type_of i).items.items name) (sym c.deref.ensures) ∙ sym c.find.ensures ∙ c.in_err-number-in-Imported.was in
    ap (option_map (member_def types funcs)) c.from_residual.ensures
    ∙ sym (ap (λ e. member_named (members_of types funcs e) name) c.in-Imported.is ∙ named_item types funcs import by 0 items name ∙ ap (option_map (λ p. member_def types funcs (item_member import by p.0 p.1))) found)

pub returns-in_ok-number-in-Imported-clause-def : goal.returns-in_ok-number-in-Imported-clause-def
returns-in_ok-number-in-Imported-clause-def c = λ types funcs.
    let import = c.in-Imported.import in
    let by = c.in-Imported.by in
    let name = c.args.name.now in
    let number = c.in_ok-number-in-Imported.number in
    let desc = c.in_ok-number-in-Imported.item in
    let items = (instance_type_of c.in-Imported.items.value).items.items in
    let found : item_named 0 items name ≡ Some (number, desc) = ap (λ i. item_named 0 (instance_type_of i).items.items name) (sym c.deref.ensures) ∙ sym c.find.ensures ∙ c.in_ok-number-in-Imported.was in
    ap (λ m. Some (member_def types funcs m)) c.item_member.ensures
    ∙ sym (ap (λ e. member_named (members_of types funcs e) name) c.in-Imported.is ∙ named_item types funcs import by 0 items name ∙ ap (option_map (λ p. member_def types funcs (item_member import by p.0 p.1))) found)

pub returns-in_ok-number-in-Imported-clause-there :
    goal.returns-in_ok-number-in-Imported-clause-there
returns-in_ok-number-in-Imported-clause-there c = λ types funcs there.
    let import = c.in-Imported.import in
    let by = c.in-Imported.by in
    let name = c.args.name.now in
    let number = c.in_ok-number-in-Imported.number in
    let desc = c.in_ok-number-in-Imported.item in
    let items = (instance_type_of c.in-Imported.items.value).items.items in
    let found : item_named 0 items name ≡ Some (number, desc) = ap (λ i. item_named 0 (instance_type_of i).items.items name) (sym c.deref.ensures) ∙ sym c.find.ensures ∙ c.in_ok-number-in-Imported.was in
    let all : are_items_there types funcs items ≡ true = sym (ap (are_members_there types funcs) c.in-Imported.is) ∙ there in
    ap (is_member_there types funcs) c.item_member.ensures
    ∙ some_has (λ p. is_member_there types funcs (item_member import by p.0 p.1) ≡ true) (item_named 0 items name) (number, desc) found (item_there types funcs import by 0 items name all)

pub returns-in-Exporting-clause-def : goal.returns-in-Exporting-clause-def
returns-in-Exporting-clause-def c = λ types funcs.
    let name = c.args.name.now in
    ap (option_map (member_def types funcs)) (c.copied.ensures ∙ c.get.ensures)
    ∙ looked_up types funcs name (entries_of c.deref-in-Exporting.result.now)
    ∙ sym (ap (λ e. member_named (members_of types funcs e) name) c.in-Exporting.is ∙ ap (λ m. member_named (map (named_member types funcs) (entries_of m)) name) (sym c.deref-in-Exporting.ensures))

pub returns-in-Exporting-clause-there : goal.returns-in-Exporting-clause-there
returns-in-Exporting-clause-there c = λ types funcs there.
    let entries = (entries_of c.deref-in-Exporting.result.now) in
    let all : list_all (λ e. is_member_there types funcs e.1) entries ≡ true =
    ap (λ m. list_all (λ e. is_member_there types funcs e.1) (entries_of m)) c.deref-in-Exporting.ensures ∙ sym (ap (are_members_there types funcs) c.in-Exporting.is) ∙ there in
    subst (λ o. IfSome o (λ m. is_member_there types funcs m ≡ true)) (sym (c.copied.ensures ∙ c.get.ensures)) (looked_there types funcs c.args.name.now entries all)
