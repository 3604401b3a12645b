use Rattle.std.proofs.Common.{◌≡◌, [], ◌∷◌, ◌++◌, OnOk, ap, arith, length, map, refl, subst, sym, ◌∙◌}
use Rattle.std.proofs.lemmas.Result.{IfOk-from_err}
use Rattle.cm_types.specs.Limits.{IsWithinLimits, depth_of, nodes_of}
use Rattle.cm_types.specs.Spellable.{is_spellable}
use Rattle.cm_types.specs.Types.{Ty}
use Rattle.cm_types.specs.TypeTrees.{type_of}
use Rattle.cm_types_arena.specs.Arena.{parts_in}
use Rattle.cm_types_arena.specs.Places.{funcs_of, types_of}
use Rattle.cm_types_arena.specs.TypeDefs.{def_type, type_at}
use Rattle.cm_types_arena.specs.Replaced.{replaced}
use Rattle.cm_validate_types.proofs.CopyLaws.{at_front, copied_long, itself, longer, made_copy}
use Rattle.cm_validate_types.proofs.copies.push_copy.Goals as goal

pub replaced_def-requires : goal.replaced_def-requires
replaced_def-requires g c =
    let old = types_of c.args.types.now in
    copied_long (g.R.Replacement.replacement c.args.by.now) old (parts_in (type_at old c.args.place)) c.args.parts.now c.requires.copied ∙ ap (λ (t : Ty). length (parts_in t)) (sym c.node.ensures)

pub returns-in_err-def-clause-copy : goal.returns-in_err-def-clause-copy
returns-in_err-def-clause-copy g c = IfOk-from_err c.from_residual.result _ c.from_residual.ensures.0

pub returns-in_err-def-clause-pushed : goal.returns-in_err-def-clause-pushed
returns-in_err-def-clause-pushed g c = IfOk-from_err c.from_residual.result _ c.from_residual.ensures.0

pub returns-in_err-def-clause-kept : goal.returns-in_err-def-clause-kept
returns-in_err-def-clause-kept g c = itself (types_of c.args.types.now)

pub returns-in_err-def-clause-funcs : goal.returns-in_err-def-clause-funcs
returns-in_err-def-clause-funcs g c = refl {a = funcs_of c.args.types.now}

pub push_lawful-requires-clause-parts : goal.push_lawful-requires-clause-parts
push_lawful-requires-clause-parts g c = c.in_ok-def.ensures.there (length (types_of c.args.types.now)) c.requires.there

pub push_lawful-requires-clause-within : goal.push_lawful-requires-clause-within
push_lawful-requires-clause-within g c =
    let s = g.R.Replacement.replacement c.args.by.now in
    let old = types_of c.args.types.now in
    let t = type_at old c.args.place in
    let ty : def_type old c.in_ok-def.def ≡ replaced s t = c.in_ok-def.ensures.ty old (ap (λ (u : Ty). map (replaced s) (parts_in u)) c.node.ensures ∙ c.requires.copied) ∙ ap (replaced s) c.node.ensures in
    let nodes : nodes_of (def_type old c.in_ok-def.def) ≡ nodes_of t = ap nodes_of ty ∙ c.what_stays.ensures.nodes s t in
    let depth : depth_of (def_type old c.in_ok-def.def) ≡ depth_of t = ap depth_of ty ∙ c.what_stays.ensures.depth s t in
    let limits : IsWithinLimits t = c.types_are_lawful.ensures.within in
    (omega (arith, nodes, limits.0), omega (arith, depth, limits.1))

pub push_lawful-requires-clause-spellable : goal.push_lawful-requires-clause-spellable
push_lawful-requires-clause-spellable g c =
    let s = g.R.Replacement.replacement c.args.by.now in
    let old = types_of c.args.types.now in
    let t = type_at old c.args.place in
    let ty : def_type old c.in_ok-def.def ≡ replaced s t = c.in_ok-def.ensures.ty old (ap (λ (u : Ty). map (replaced s) (parts_in u)) c.node.ensures ∙ c.requires.copied) ∙ ap (replaced s) c.node.ensures in
    ap is_spellable ty ∙ c.what_stays.ensures.spellable s t ∙ c.types_are_lawful.ensures.spellable

pub returns-clause-copy : goal.returns-clause-copy
returns-clause-copy g c =
    let s = g.R.Replacement.replacement c.args.by.now in
    let old = types_of c.args.types.now in
    let new = types_of c.push_lawful.new.types in
    let place = c.args.place in
    let same : type_at new place ≡ type_at old place = at_front old new place c.push_lawful.ensures.kept c.requires.place in
    let ty : def_type old c.in_ok-def.def ≡ replaced s (type_of c.node.result.now) = c.in_ok-def.ensures.ty old (ap (λ (u : Ty). map (replaced s) (parts_in u)) c.node.ensures ∙ c.requires.copied) in
    let long = longer old new c.push_lawful.ensures.kept in
    made_copy s c.push_lawful.result new place (def_type old c.in_ok-def.def) (omega (arith, c.requires.place, long)) (ty ∙ ap (replaced s) (c.node.ensures ∙ sym same)) c.push_lawful.ensures.there c.push_lawful.ensures.ty

pub returns-clause-pushed : goal.returns-clause-pushed
returns-clause-pushed g c =
    let s = g.R.Replacement.replacement c.args.by.now in
    let old = types_of c.args.types.now in
    let new = types_of c.push_lawful.new.types in
    let ty : def_type old c.in_ok-def.def ≡ replaced s (type_of c.node.result.now) = c.in_ok-def.ensures.ty old (ap (λ (u : Ty). map (replaced s) (parts_in u)) c.node.ensures ∙ c.requires.copied) in
    subst (λ (t : Ty). OnOk c.push_lawful.result (new ≡ old ++ t ∷ [])) (ty ∙ ap (replaced s) c.node.ensures) c.push_lawful.ensures.pushed

pub returns-clause-kept : goal.returns-clause-kept
returns-clause-kept g c = c.push_lawful.ensures.kept

pub returns-clause-funcs : goal.returns-clause-funcs
returns-clause-funcs g c = c.push_lawful.ensures.funcs
