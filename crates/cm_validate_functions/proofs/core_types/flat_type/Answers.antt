use Rattle.std.proofs.Common.{rules, ◌≡◌, ◌∙◌, ◌≤◌, List, length, refl, sym, ap, subst}
use Rattle.cm_types.specs.Types.{FuncTy}
use Rattle.cm_types_arena.specs.Places.{funcs_of}
use Rattle.cm_layout.specs.FlatFuncs.{flat_func, flat_func_of}
use Rattle.cm_types_arena.specs.TypeDefs.{func_at}
use Rattle.cm_validate_functions.proofs.FlatLaws.{flat_nowhere, flat_there}
use Rattle.cm_validate_functions.proofs.core_types.flat_type.Goals as goal

pub returns-then-ty-func_count : goal.returns-then-ty-func_count
returns-then-ty-func_count c =
    let past : length (funcs_of c.args.types.now) ≤ c.args.ty.place = search rules in
    flat_nowhere c.passing_stays.ensures.kinds c.args.side (funcs_of c.args.types.now) c.args.ty c.no_values.result past c.no_values.ensures

pub returns : goal.returns
returns c =
    let is : flat_func_of c.in_ok-flat.flat ≡ flat_func c.args.side (func_at (funcs_of c.args.types.now) c.args.ty.place) = c.in_ok-flat.ensures ∙ ap (flat_func c.args.side) c.func.ensures in
    flat_there c.passing_stays.ensures.kinds c.args.side (funcs_of c.args.types.now) c.args.ty c.in_ok-flat.flat (record { params = c.in_ok-flat.flat.params; results = c.in_ok-flat.flat.results }) is refl
