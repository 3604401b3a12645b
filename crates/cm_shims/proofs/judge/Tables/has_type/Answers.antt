use Rattle.std.proofs.Common.{◌∙◌, List, Some, ap}
use Rattle.cm_types.specs.Types.{FuncTy, Ty}
use Rattle.cm_types_arena.specs.Placed.{placed_func}
use Rattle.cm_types_arena.specs.Places.{funcs_of, types_of}
use Rattle.cm_validate_types.specs.Entries.{def_of}
use Rattle.cm_validate_spaces.specs.IndexSpaces.{types_in}
use Rattle.cm_shims.proofs.JudgeLaws.{has_type_is}
use Rattle.cm_shims.proofs.judge.Tables.has_type.Goals as goal
use Rattle.cm_lemmas.proofs.Results.{if_ok_more}

pub returns-in-Some-type_entry-clause-holds : goal.returns-in-Some-type_entry-clause-holds
returns-in-Some-type_entry-clause-holds c =
    let func = c.in-Some.func in
    let entry = c.in-Some-type_entry.entry.now in
    if_ok_more c.is_func.result _ _ c.is_func.ensures.same (λ same h. λ s at.
    let of = ap (λ (fs : List FuncTy). Some (placed_func fs func)) c.requires.arena.1 ∙ c.in-Some.ensures s at in
    let there = ap (λ (ts : List Ty). Some (def_of ts (funcs_of c.args.arena.now) entry)) c.requires.arena.0 ∙ (ap (λ (fs : List FuncTy). Some (def_of (types_in c.args.spaces.now) fs entry)) c.requires.arena.1 ∙ c.in-Some-type_entry.ensures s at) in
    has_type_is same _ _ _ _ of there h)
