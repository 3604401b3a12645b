use Rattle.std.proofs.Common.{◌≡◌, ◌∙◌, List, ap, map, sym}
use Rattle.cm_types_arena.specs.Places.{funcs_of, types_of}
use Rattle.cm_types_arena.specs.declared.types.Types.{Types}
use Rattle.cm_types_arena.specs.Externs.{extern_of}
use Rattle.cm_types_arena.specs.declared.externs.Extern.{Extern}
use Rattle.cm_types_arena.specs.Shared.{shared_extern_of}
use Rattle.cm_types_arena.specs.SharedNames.{text_in}
use Rattle.cm_types_arena.specs.declared.names.Front.{Front}
use Rattle.cm_types_arena.specs.declared.shared.SharedExtern.{SharedExtern}
use Rattle.cm_wit_conforms.specs.Places.{extern_names}
use Rattle.cm_wit_conforms.proofs.ListLaws.{fused, listed_as}
use Rattle.cm_wit_conforms.proofs.same_names.listed_externs.Goals as goal

pub returns-in-OfComponent : goal.returns-in-OfComponent
returns-in-OfComponent c =
    let is : (t : Types) → extern_names t c.args.externs.now ≡ map (λ (e : Extern). e.name) c.externs.result.now = λ t.
    ap (extern_names t) c.in-OfComponent.is
    ∙ (fused (extern_of (types_of t) (funcs_of t)) (λ e. e.name) c.in-OfComponent.numbered.externs.items
    ∙ sym (ap (λ (es : List Extern). map (λ (e : Extern). e.name) es) c.externs.ensures)) in
    listed_as c.component_externs.result (map (λ (e : Extern). e.name) c.externs.result.now) (λ t. extern_names t c.args.externs.now) is c.component_externs.ensures

pub returns-in-OfWorld : goal.returns-in-OfWorld
returns-in-OfWorld c =
    let texts = λ (fs : List Front) (es : List SharedExtern). map (λ (e : SharedExtern). text_in fs e.name) es in
    let is : (t : Types) → extern_names t c.args.externs.now ≡ texts c.deref.result.now c.deref-in-OfWorld.result.now = λ t.
    ap (extern_names t) c.in-OfWorld.is
    ∙ (fused (shared_extern_of (types_of t) (funcs_of t) c.in-OfWorld.shared.fronts.items) (λ e. e.name) c.in-OfWorld.shared.externs.items
    ∙ (sym (ap (λ (fs : List Front). texts fs c.in-OfWorld.shared.externs.items) c.deref.ensures.value)
    ∙ sym (ap (texts c.deref.result.now) c.deref-in-OfWorld.ensures.value))) in
    listed_as c.world_externs.result (texts c.deref.result.now c.deref-in-OfWorld.result.now) (λ t. extern_names t c.args.externs.now) is c.world_externs.ensures
