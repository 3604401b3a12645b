use Rattle.std.proofs.Common.{◌≡◌, ◌∙◌, Some, List, ap, sym, slice_get}
use Rattle.cm_types_arena.specs.declared.instances.InstanceType.{InstanceType}
use Rattle.cm_types_arena.specs.declared.instances.Item.{Item}
use Rattle.cm_match_serving.specs.Linkings.{components_in, set_in}
use Rattle.cm_match_serving.specs.Sets.{funcs_at, types_at}
use Rattle.cm_match_serving.proofs.Found.{item_read}
use Rattle.cm_match_serving.proofs.linking.Linking.item_name.Goals as goal
use Rattle.cm_lemmas.proofs.Lists.{got}

pub returns-in_ok-get-in-Instance : goal.returns-in_ok-get-in-Instance
returns-in_ok-get-in-Instance c =
    let cs = components_in c.args.self.now in
    let it = c.in_ok-get-in-Instance.field-0.now in
    let items = c.deref-in-Instance.ensures.value ∙ ap (λ (t : InstanceType). t.items.items) c.deref.ensures in
    let at : slice_get c.in-Instance.ty.value.items.items c.args.item ≡ Some it =
    sym (got c.deref-in-Instance.result.now c.args.item (Some c.in_ok-get-in-Instance.field-0) c.in_ok-get-in-Instance.ensures.lookup ∙ ap (λ (xs : List Item). slice_get xs c.args.item) items) in
    ap Some c.as_str.ensures.text
    ∙ item_read (set_in c.args.self.now).spaces c.args.component c.args.import c.args.item (types_at cs c.args.component) (funcs_at cs c.args.component) c.in_ok-ty.field-0.now c.in-Instance.ty c.in-Instance.by it c.in_ok-ty.ensures c.in-Instance.is at
