use Rattle.std.proofs.Common.{rules, List, Option, sym, subst, ◌∙◌}
use Rattle.cm_types_arena.specs.Places.{funcs_of, types_of}
use Rattle.cm_types.specs.Signatures.{NamedExtern}
use Rattle.cm_types_arena.specs.Shared.{shared_externs_of}
use Rattle.cm_types_arena.specs.Signatures.{signature_of}
use Rattle.cm_wit_signature.specs.Signatures.{externs_from}
use Rattle.cm_wit_signature.specs.Adding.{AreExternsFault}
use Rattle.cm_wit_signature.specs.PartViews.{interfaces_in, world_in, scopes_in}
use Rattle.cm_wit_signature.proofs.ExternLaws.{imports_fault, exports_fault, made_there, made_stays, signature_made, signature_within}
use Rattle.cm_wit_signature.proofs.LoopLaws.{own_stays, externs_same}
use Rattle.cm_wit_signature.proofs.signature.signature_with.Goals as goal

pub returns-in_err-imports-clause-fault : goal.returns-in_err-imports-clause-fault
returns-in_err-imports-clause-fault c =
    let h = imports_fault (externs_from (interfaces_in c.args.parts.now) (world_in c.args.parts.now) (scopes_in (types_of c.args.types) c.args.parts.now) c.args.parts.now.own 0 c.args.into.now) (externs_from (interfaces_in c.args.parts.now) (world_in c.args.parts.now) (scopes_in (types_of c.args.types) c.args.parts.now) c.args.parts.now.own c.args.first c.args.out.now) c.in_err-imports.field-0.0 c.in_err-imports.ensures.fault in
    search (rules, h)

pub push_externs-requires-2-clause-own : goal.push_externs-requires-2-clause-own
push_externs-requires-2-clause-own c = own_stays c.args.parts.now c.tables_stay.ensures.same c.args.types c.push_externs.new.types c.in_ok-imports.ensures.grown c.requires.placed c.requires.own

pub returns-in_err-exports-clause-fault : goal.returns-in_err-exports-clause-fault
returns-in_err-exports-clause-fault c =
    let g = subst (λ (o : Option (List NamedExtern)). AreExternsFault o c.in_err-exports.field-0.0) (externs_same c.args.parts.now c.tables_stay.ensures.same c.args.types c.push_externs.new.types c.in_ok-imports.ensures.grown c.requires.placed c.args.first c.args.out.now) c.in_err-exports.ensures.fault in
    let h = exports_fault (externs_from (interfaces_in c.args.parts.now) (world_in c.args.parts.now) (scopes_in (types_of c.args.types) c.args.parts.now) c.args.parts.now.own 0 c.args.into.now) (externs_from (interfaces_in c.args.parts.now) (world_in c.args.parts.now) (scopes_in (types_of c.args.types) c.args.parts.now) c.args.parts.now.own c.args.first c.args.out.now) (shared_externs_of (types_of c.push_externs.new.types) (funcs_of c.push_externs.new.types) c.in_ok-imports.imports) c.in_err-exports.field-0.0 c.in_ok-imports.ensures.externs g in
    search (rules, h)

pub new-requires-clause-imports : goal.new-requires-clause-imports
new-requires-clause-imports c = made_there c.in_ok-imports.imports.fronts.items c.items_stay.ensures.same c.items_stay.ensures.there c.push_externs.new.types c.push_externs-2.new.types c.in_ok-imports.imports.externs.items c.in_ok-exports.ensures.grown c.in_ok-exports.ensures.funcs c.in_ok-imports.ensures.there

pub returns-clause-signature : goal.returns-clause-signature
returns-clause-signature c = signature_made (externs_from (interfaces_in c.args.parts.now) (world_in c.args.parts.now) (scopes_in (types_of c.args.types) c.args.parts.now) c.args.parts.now.own 0 c.args.into.now) (externs_from (interfaces_in c.args.parts.now) (world_in c.args.parts.now) (scopes_in (types_of c.args.types) c.args.parts.now) c.args.parts.now.own c.args.first c.args.out.now) (shared_externs_of (types_of c.push_externs.new.types) (funcs_of c.push_externs.new.types) c.in_ok-imports.imports) (shared_externs_of (types_of c.push_externs-2.new.types) (funcs_of c.push_externs-2.new.types) c.in_ok-exports.exports) (signature_of c.new.result) c.in_ok-imports.ensures.externs (sym (externs_same c.args.parts.now c.tables_stay.ensures.same c.args.types c.push_externs.new.types c.in_ok-imports.ensures.grown c.requires.placed c.args.first c.args.out.now) ∙ c.in_ok-exports.ensures.externs) (c.new.ensures.imports ∙ made_stays c.in_ok-imports.imports.fronts.items c.items_stay.ensures.same c.items_stay.ensures.there c.push_externs.new.types c.push_externs-2.new.types c.in_ok-imports.imports.externs.items c.in_ok-exports.ensures.grown c.in_ok-exports.ensures.funcs c.in_ok-imports.ensures.there) c.new.ensures.exports

pub returns-clause-within : goal.returns-clause-within
returns-clause-within c = signature_within (shared_externs_of (types_of c.push_externs.new.types) (funcs_of c.push_externs.new.types) c.in_ok-imports.imports) (shared_externs_of (types_of c.push_externs-2.new.types) (funcs_of c.push_externs-2.new.types) c.in_ok-exports.exports) (signature_of c.new.result) c.in_ok-imports.ensures.within c.in_ok-exports.ensures.within (c.new.ensures.imports ∙ made_stays c.in_ok-imports.imports.fronts.items c.items_stay.ensures.same c.items_stay.ensures.there c.push_externs.new.types c.push_externs-2.new.types c.in_ok-imports.imports.externs.items c.in_ok-exports.ensures.grown c.in_ok-exports.ensures.funcs c.in_ok-imports.ensures.there) c.new.ensures.exports
