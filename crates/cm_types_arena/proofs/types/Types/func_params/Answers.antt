use Rattle.std.proofs.Common.{◌∙◌, ap, sym, arith, map, length, subst, List, ℕ}
use Rattle.cm_types_arena.specs.Arena.{types_in}
use Rattle.cm_types_arena.specs.TypeDefs.{type_at}
use Rattle.cm_types_arena.proofs.FuncLaws.{func_count, params_there, params_low}
use Rattle.cm_types_arena.proofs.PlaceLaws.{AreBelow}
use Rattle.cm_types_arena.proofs.types.Types.func_params.Goals as goal

pub returns-clause-there : goal.returns-clause-there
returns-clause-there c =
    let types = types_in c.args.self.now.entries.items in
    let fs = c.args.self.now.funcs.items in
    subst (λ (ps : List ℕ). AreBelow (length types) ps) (sym c.deref.ensures.value)
    (params_low types fs c.args.place c.index.result.now c.args.self.now.functions (omega (arith, c.requires, func_count fs)) c.index.ensures)

pub returns-clause-params : goal.returns-clause-params
returns-clause-params c =
    let types = types_in c.args.self.now.entries.items in
    let fs = c.args.self.now.funcs.items in
    params_there types fs c.args.place c.index.result.now c.args.self.now.functions (omega (arith, c.requires, func_count fs)) c.index.ensures
    ∙ ap (map (type_at types)) (sym c.deref.ensures.value)
