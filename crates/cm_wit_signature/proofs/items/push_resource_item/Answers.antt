use Rattle.std.proofs.Common.{rules, ℕ, List, Some, None, sym, ap, ◌∙◌}
use Rattle.std.specs.Option.{option_and_then}
use Rattle.std.proofs.lemmas.Option.{get_or_from_slice_get}
use Rattle.cm_types_arena.specs.Places.{types_of, funcs_of}
use Rattle.cm_types_arena.specs.TypeDefs.{func_at}
use Rattle.cm_types.specs.ExternNames.{name_spelling}
use Rattle.cm_types.specs.Types.{FuncTy}
use Rattle.cm_types.specs.Signatures.{func_item}
use Rattle.cm_types_arena.specs.SharedNames.{name_with}
use Rattle.cm_wit_reading.specs.Views.{resource_func_tree}
use Rattle.cm_wit_meanings.specs.Places.{scope_in}
use Rattle.cm_wit_meanings.specs.Scopes.{as_resource}
use Rattle.cm_wit_signature.specs.Members.{item_with, func_name, member_func}
use Rattle.cm_wit_signature.specs.Fronts.{func_front}
use Rattle.cm_wit_signature.proofs.ItemLaws.{func_refused, no_resource, of_resource_made, name_made, func_item_made}
use Rattle.cm_wit_signature.proofs.items.push_resource_item.Goals as goal

pub returns-in_err-numbered-clause-fault : goal.returns-in_err-numbered-clause-fault
returns-in_err-numbered-clause-fault c =
    let s = scope_in (types_of c.args.types.now) c.args.scope.now in
    let f = resource_func_tree c.args.func.now in
    let h = func_refused (λ (t : FuncTy). item_with (func_name c.args.resource.now f) (func_item t)) (member_func s c.args.resource.now f) c.in_err-numbered.field-0.0 c.in_err-numbered.ensures.fault (no_resource s c.args.resource.now f (c.in_err-numbered.ensures.nothing (option_and_then as_resource (s c.args.resource.now)) c.requires.resource)) in
    search (rules, h)

pub returns-clause-item : goal.returns-clause-item
returns-clause-item c = λ fronts e.
    let s = scope_in (types_of c.args.types.now) c.args.scope.now in
    let f = resource_func_tree c.args.func.now in
    let new = c.push_resource_func.new.types in
    let owner = option_and_then as_resource (s c.args.resource.now) in
    let found = sym (get_or_from_slice_get c.args.resources.now c.args.front owner None c.requires.resource) ∙ get_or_from_slice_get c.args.resources.now c.args.front (Some c.in_ok-numbered.numbered) None c.in_ok-numbered.ensures.resource in
    let made = of_resource_made s c.args.resource.now f c.in_ok-numbered.numbered (func_at (funcs_of new) c.in_ok-place.place) found c.in_ok-place.ensures.meaning in
    let name = name_made fronts c.args.front (func_front c.args.resource.now f) c.in_ok-back.back e ∙ (ap (λ (b : List ℕ). name_spelling (name_with (func_front c.args.resource.now f) b)) c.in_ok-back.ensures.cases ∙ c.back_of.ensures) in
    func_item_made _ (func_name c.args.resource.now f) (types_of new) (funcs_of new) c.at.result c.in_ok-place.place (member_func s c.args.resource.now f) c.unmoved.ensures.funcs name c.at.ensures.place c.at.ensures.by made
