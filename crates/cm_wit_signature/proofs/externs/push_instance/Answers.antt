use Rattle.std.proofs.Common.{rules, arith, ◌≡◌, length, sym, ap, subst, ◌∙◌}
use Rattle.cm_types_arena.specs.Shared.{shared_items_of}
use Rattle.cm_types_arena.specs.Places.{types_of, funcs_of}
use Rattle.std.proofs.lemmas.Option.{slice_get_within}
use Rattle.std.proofs.lemmas.List.{length-map}
use Rattle.cm_wit_worlds.specs.InterfaceViews.{placed_interface}
use Rattle.cm_wit_meanings.specs.Places.{scope_in}
use Rattle.cm_wit_meanings.specs.Scopes.{Scope}
use Rattle.cm_wit_signature.specs.Own.{AreOwn}
use Rattle.cm_wit_signature.specs.PartViews.{files_in, scopes_in}
use Rattle.cm_wit_signature.proofs.OneLaws.{instance_refused, instance_made, instance_within}
use Rattle.cm_wit_reading.specs.Views.{file_tree}
use Rattle.cm_wit_worlds.specs.Interfaces.{full_name}
use Rattle.cm_wit_signature.proofs.PackageLaws.{full_name_made}
use Rattle.cm_wit_signature.proofs.externs.push_instance.Goals as goal

pub push_items-requires-clause-own : goal.push_items-requires-clause-own
push_items-requires-clause-own c = subst (λ (s : Scope). AreOwn s) (sym (c.scope-scope.ensures.names (types_of c.args.types.now))) (c.requires.own c.args.list)

pub returns-in_err-items-clause-fault : goal.returns-in_err-items-clause-fault
returns-in_err-items-clause-fault c =
    let old = types_of c.args.types.now in
    let h = instance_refused (scope_in old c.scope-scope.result) (scopes_in old c.args.parts.now c.args.list) (placed_interface c.args.placed.now) c.in_err-items.field-0.0 (c.scope-scope.ensures.names old) c.in_err-items.ensures.fault in
    search (rules, h)

pub returns-clause-is : goal.returns-clause-is
returns-clause-is c =
    let old = types_of c.args.types.now in
    let new = c.push_items.new.types in
    let name = full_name_made (files_in c.args.parts.now) c.args.placed.now.place c.front_at-front.result _ c.in_ok-back.back c.front_at-front.ensures c.requires.package ∙ ap (full_name (file_tree c.args.placed.now.file.now)) c.in_ok-back.ensures.cases in
    instance_made c.unmoved.ensures.types c.unmoved.ensures.funcs (scope_in old c.scope-scope.result) (scopes_in old c.args.parts.now c.args.list) (placed_interface c.args.placed.now) _ (shared_items_of (types_of new) (funcs_of new) c.in_ok-items.items) (c.scope-scope.ensures.names old) name c.in_ok-items.ensures.items

pub returns-clause-within : goal.returns-clause-within
returns-clause-within c =
    let new = c.push_items.new.types in
    instance_within c.unmoved.ensures.types c.unmoved.ensures.funcs (shared_items_of (types_of new) (funcs_of new) c.in_ok-items.items) c.in_ok-items.ensures.within

pub front_at-front-requires : goal.front_at-front-requires
front_at-front-requires c =
    let lt = slice_get_within (files_in c.args.parts.now) c.args.placed.now.place (file_tree c.args.placed.now.file.now) c.requires.package in
    let n : length (files_in c.args.parts.now) ≡ length c.args.parts.now.sources.files.now = length-map c.args.parts.now.sources.files.now (λ f. file_tree f.now) in
    omega (arith, lt, n)
