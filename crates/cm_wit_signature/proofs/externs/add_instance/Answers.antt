use Rattle.std.proofs.Common.{rules, arith, ◌≡◌, ◌<◌, ◌++◌, ◌∷◌, true, List, [], length, sym, ap, subst, ◌∙◌}
use Rattle.std.specs.List.{flat_map}
use Rattle.std.proofs.lemmas.List.{length-map}
use Rattle.cm_types_arena.specs.Places.{types_of}
use Rattle.cm_types_arena.specs.declared.shared.SharedExtern.{SharedExtern}
use Rattle.cm_wit_worlds.specs.InterfaceViews.{placed_interface}
use Rattle.cm_wit_signature.specs.ItemFaults.{AreWithin}
use Rattle.cm_wit_signature.specs.Functions.{extern_funcs}
use Rattle.cm_wit_signature.specs.PartViews.{interfaces_in, world_in, scopes_in, extern_made, externs_made, are_made_there, files_in, fronts_in}
use Rattle.cm_wit_signature.proofs.ExternLaws.{at_index, adds_instance, instance_fault, made_more, more_there, more_within}
use Rattle.cm_wit_signature.proofs.PackageLaws.{one_has_package}
use Rattle.cm_wit_signature.proofs.externs.add_instance.Goals as goal

pub returns-in_err-instance-clause-fault : goal.returns-in_err-instance-clause-fault
returns-in_err-instance-clause-fault c = λ ns.
    let lt : c.args.number < length (interfaces_in c.args.parts.now) = omega (arith, c.requires.number, length-map c.args.parts.now.sources.interfaces.now placed_interface) in
    let h = instance_fault (interfaces_in c.args.parts.now) (world_in c.args.parts.now) (scopes_in (types_of c.args.types.now) c.args.parts.now) c.args.parts.now.own c.args.list c.args.number (externs_made c.args.parts.now c.args.types.now c.args.out.now.items) c.in_err-instance.field-0.0 _ (at_index placed_interface c.args.parts.now.sources.interfaces.now c.args.number _ c.requires.number) lt c.in_err-instance.ensures.fault ns in
    search (rules, h)

pub returns-clause-adds : goal.returns-clause-adds
returns-clause-adds c =
    let n : c.push.new.self.items ≡ c.args.out.now.items ++ c.in_ok-instance.instance ∷ [] = search rules in
    let q = ap (externs_made c.args.parts.now c.push_instance.new.types) n ∙ made_more (fronts_in c.args.parts.now) c.items_stay.ensures.same c.items_stay.ensures.there c.args.types.now c.push_instance.new.types c.in_ok-instance.ensures.grown c.in_ok-instance.ensures.funcs c.args.out.now.items c.requires.there c.in_ok-instance.instance in
    let lt : c.args.number < length (interfaces_in c.args.parts.now) = omega (arith, c.requires.number, length-map c.args.parts.now.sources.interfaces.now placed_interface) in
    adds_instance (interfaces_in c.args.parts.now) (world_in c.args.parts.now) (scopes_in (types_of c.args.types.now) c.args.parts.now) c.args.parts.now.own c.args.list c.args.number _ (at_index placed_interface c.args.parts.now.sources.interfaces.now c.args.number _ c.requires.number) lt (externs_made c.args.parts.now c.args.types.now c.args.out.now.items) (externs_made c.args.parts.now c.push_instance.new.types c.push.new.self.items) (extern_made c.args.parts.now c.push_instance.new.types c.in_ok-instance.instance) c.in_ok-instance.ensures.is q

pub returns-clause-there : goal.returns-clause-there
returns-clause-there c =
    let n : c.push.new.self.items ≡ c.args.out.now.items ++ c.in_ok-instance.instance ∷ [] = search rules in
    subst (λ (es : List SharedExtern). are_made_there c.push_instance.new.types es ≡ true) (sym n) (more_there (fronts_in c.args.parts.now) c.items_stay.ensures.same c.items_stay.ensures.there c.args.types.now c.push_instance.new.types c.in_ok-instance.ensures.grown c.in_ok-instance.ensures.funcs c.args.out.now.items c.requires.there c.in_ok-instance.instance c.in_ok-instance.ensures.there)

pub returns-clause-within : goal.returns-clause-within
returns-clause-within c =
    let n : c.push.new.self.items ≡ c.args.out.now.items ++ c.in_ok-instance.instance ∷ [] = search rules in
    subst (λ (es : List SharedExtern). AreWithin (flat_map extern_funcs (externs_made c.args.parts.now c.push_instance.new.types es))) (sym n) (more_within (fronts_in c.args.parts.now) c.items_stay.ensures.same c.items_stay.ensures.there c.args.types.now c.push_instance.new.types c.in_ok-instance.ensures.grown c.in_ok-instance.ensures.funcs c.args.out.now.items c.requires.there c.in_ok-instance.instance c.requires.within c.in_ok-instance.ensures.within)

pub push_instance-requires-clause-package : goal.push_instance-requires-clause-package
push_instance-requires-clause-package c =
    one_has_package (files_in c.args.parts.now) (interfaces_in c.args.parts.now) c.args.number _ c.requires.packages (at_index placed_interface c.args.parts.now.sources.interfaces.now c.args.number _ c.requires.number)
