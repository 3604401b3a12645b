use Rattle.std.proofs.Common.{◌≡◌, ◌∙◌, List, ap, map, sym}
use Rattle.cm_types_arena.specs.Places.{funcs_of, types_of}
use Rattle.cm_types_arena.specs.declared.types.Types.{Types}
use Rattle.cm_types_arena.specs.Instances.{item_of}
use Rattle.cm_types_arena.specs.declared.instances.Item.{Item}
use Rattle.cm_types_arena.specs.Shared.{shared_item_of}
use Rattle.cm_types_arena.specs.SharedNames.{text_in}
use Rattle.cm_types_arena.specs.declared.names.Front.{Front}
use Rattle.cm_types_arena.specs.declared.shared.SharedItem.{SharedItem}
use Rattle.cm_wit_conforms.specs.Places.{item_names}
use Rattle.cm_wit_conforms.proofs.ListLaws.{fused, listed_as}
use Rattle.cm_wit_conforms.proofs.same_names.listed_items.Goals as goal

pub returns-in-OfComponent : goal.returns-in-OfComponent
returns-in-OfComponent c =
    let is : (t : Types) → item_names t c.args.items ≡ map (λ (i : Item). i.name) c.in-OfComponent.list.now = λ t.
    ap (item_names t) c.in-OfComponent.is
    ∙ fused (item_of (types_of t) (funcs_of t)) (λ i. i.name) c.in-OfComponent.list.now in
    listed_as c.component_items.result (map (λ (i : Item). i.name) c.in-OfComponent.list.now) (λ t. item_names t c.args.items) is c.component_items.ensures

pub returns-in-OfWorld : goal.returns-in-OfWorld
returns-in-OfWorld c =
    let texts = λ (fs : List Front) (is : List SharedItem). map (λ (i : SharedItem). text_in fs i.name) is in
    let is : (t : Types) → item_names t c.args.items ≡ texts c.deref.result.now c.deref-in-OfWorld.result.now = λ t.
    ap (item_names t) c.in-OfWorld.is
    ∙ (fused (shared_item_of (types_of t) (funcs_of t) c.in-OfWorld.shared.now.fronts.items) (λ i. i.name) c.in-OfWorld.shared.now.items.items
    ∙ (sym (ap (λ (fs : List Front). texts fs c.in-OfWorld.shared.now.items.items) c.deref.ensures.value)
    ∙ sym (ap (texts c.deref.result.now) c.deref-in-OfWorld.ensures.value))) in
    listed_as c.world_items.result (texts c.deref.result.now c.deref-in-OfWorld.result.now) (λ t. item_names t c.args.items) is c.world_items.ensures
