use Rattle.std.proofs.Common.{rules, ◌≡◌, ◌∙◌, ℕ, List, Option, Some, ap, sym, slice_get}
use Rattle.std.specs.Option.{option_map}
use Rattle.cm_types_arena.specs.Externs.{extern_desc_of}
use Rattle.cm_types_arena.specs.declared.externs.ExternDesc.{ExternDesc}
use Rattle.cm_types_arena.specs.declared.instances.Item.{Item}
use Rattle.cm_validate_functions.specs.Leading.{item_name}
use Rattle.cm_validate_functions.proofs.LeadingLaws.{name_of_item}
use Rattle.cm_validate_functions.proofs.leading.name_of_item.Goals as goal

pub returns-in-Some : goal.returns-in-Some
returns-in-Some c = λ types funcs.
    let at : slice_get c.in-Instance.ty.value.items.items c.args.item ≡ Some c.in-Some.item.now = search rules in
    ap (λ (n : List ℕ). Some n) c.as_str.ensures.text
    ∙ sym (ap (λ (d : ExternDesc). item_name c.args.item (extern_desc_of types funcs d)) c.in-Instance.is
    ∙ name_of_item types funcs c.in-Instance.by c.in-Instance.ty.value.items.items c.args.item
    ∙ ap (option_map (λ (x : Item). x.name)) at)
