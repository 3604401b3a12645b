use Rattle.std.proofs.Common.{rules, arith, ◌≡◌, ◌≤◌, ◌++◌, ◌∷◌, ◌-◌, ℕ, true, List, [], length, Some, sym, ap, subst, ◌∙◌}
use Rattle.std.specs.List.{flat_map}
use Rattle.std.specs.Option.{option_map}
use Rattle.std.proofs.lemmas.List.{length-map}
use Rattle.cm_types_arena.specs.Places.{types_of}
use Rattle.cm_types_arena.specs.declared.shared.SharedExtern.{SharedExtern}
use Rattle.cm_wit_worlds.specs.InterfaceViews.{placed_interface}
use Rattle.cm_wit_signature.specs.ItemFaults.{AreWithin}
use Rattle.cm_wit_signature.specs.Functions.{extern_funcs}
use Rattle.cm_wit_signature.specs.Signatures.{func_at}
use Rattle.cm_wit_signature.specs.PartViews.{interfaces_in, world_in, scopes_in, own_func_view, extern_made, externs_made, are_made_there, fronts_in}
use Rattle.cm_wit_signature.proofs.ExternLaws.{adds_func, func_fault, made_more, more_there, more_within}
use Rattle.cm_wit_signature.proofs.externs.add_own_func.Goals as goal

pub returns-in_err-func-clause-fault : goal.returns-in_err-func-clause-fault
returns-in_err-func-clause-fault c = λ ns.
    let le : length (interfaces_in c.args.parts.now) ≤ c.args.number = omega (arith, c.requires.number, length-map c.args.parts.now.sources.interfaces.now placed_interface) in
    let a : func_at (world_in c.args.parts.now) (c.args.number - length (interfaces_in c.args.parts.now)) ≡ Some (own_func_view c.in-Some.own) = ap (λ (k : ℕ). func_at (world_in c.args.parts.now) (c.args.number - k)) (length-map c.args.parts.now.sources.interfaces.now placed_interface) ∙ (sym c.func_at.ensures ∙ ap (option_map own_func_view) c.in-Some.is) in
    let h = func_fault (interfaces_in c.args.parts.now) (world_in c.args.parts.now) (scopes_in (types_of c.args.types.now) c.args.parts.now) c.args.parts.now.own c.args.list c.args.number (externs_made c.args.parts.now c.args.types.now c.args.out.now.items) c.in_err-func.field-0.0 (own_func_view c.in-Some.own) a le c.in_err-func.ensures.fault ns in
    search (rules, h)

pub returns-else-is_err-clause-adds : goal.returns-else-is_err-clause-adds
returns-else-is_err-clause-adds c =
    let n : c.push.new.self.items ≡ c.args.out.now.items ++ c.in_ok-func.func ∷ [] = search rules in
    let q = ap (externs_made c.args.parts.now c.push_own_func.new.types) n ∙ made_more (fronts_in c.args.parts.now) c.items_stay.ensures.same c.items_stay.ensures.there c.args.types.now c.push_own_func.new.types c.in_ok-func.ensures.grown c.in_ok-func.ensures.funcs c.args.out.now.items c.requires.there c.in_ok-func.func in
    let le : length (interfaces_in c.args.parts.now) ≤ c.args.number = omega (arith, c.requires.number, length-map c.args.parts.now.sources.interfaces.now placed_interface) in
    let a : func_at (world_in c.args.parts.now) (c.args.number - length (interfaces_in c.args.parts.now)) ≡ Some (own_func_view c.in-Some.own) = ap (λ (k : ℕ). func_at (world_in c.args.parts.now) (c.args.number - k)) (length-map c.args.parts.now.sources.interfaces.now placed_interface) ∙ (sym c.func_at.ensures ∙ ap (option_map own_func_view) c.in-Some.is) in
    adds_func (interfaces_in c.args.parts.now) (world_in c.args.parts.now) (scopes_in (types_of c.args.types.now) c.args.parts.now) c.args.parts.now.own c.args.list c.args.number le (own_func_view c.in-Some.own) (externs_made c.args.parts.now c.args.types.now c.args.out.now.items) (externs_made c.args.parts.now c.push_own_func.new.types c.push.new.self.items) (extern_made c.args.parts.now c.push_own_func.new.types c.in_ok-func.func) a c.in_ok-func.ensures.is q

pub returns-else-is_err-clause-there : goal.returns-else-is_err-clause-there
returns-else-is_err-clause-there c =
    let n : c.push.new.self.items ≡ c.args.out.now.items ++ c.in_ok-func.func ∷ [] = search rules in
    subst (λ (es : List SharedExtern). are_made_there c.push_own_func.new.types es ≡ true) (sym n) (more_there (fronts_in c.args.parts.now) c.items_stay.ensures.same c.items_stay.ensures.there c.args.types.now c.push_own_func.new.types c.in_ok-func.ensures.grown c.in_ok-func.ensures.funcs c.args.out.now.items c.requires.there c.in_ok-func.func c.in_ok-func.ensures.there)

pub returns-else-is_err-clause-within : goal.returns-else-is_err-clause-within
returns-else-is_err-clause-within c =
    let n : c.push.new.self.items ≡ c.args.out.now.items ++ c.in_ok-func.func ∷ [] = search rules in
    subst (λ (es : List SharedExtern). AreWithin (flat_map extern_funcs (externs_made c.args.parts.now c.push_own_func.new.types es))) (sym n) (more_within (fronts_in c.args.parts.now) c.items_stay.ensures.same c.items_stay.ensures.there c.args.types.now c.push_own_func.new.types c.in_ok-func.ensures.grown c.in_ok-func.ensures.funcs c.args.out.now.items c.requires.there c.in_ok-func.func c.requires.within c.in_ok-func.ensures.within)
