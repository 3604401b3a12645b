use Rattle.cm_types_arena.specs.Places.{types_of, funcs_of}
use Rattle.cm_types_arena.specs.TypeDefs.{func_def_type}
use Rattle.cm_wit_meanings.proofs.FuncLaws.{func_last, func_within}
use Rattle.cm_wit_meanings.proofs.functions.push_func_def.Goals as goal

pub returns-in-Ok-clause-within : goal.returns-in-Ok-clause-within
returns-in-Ok-clause-within c =
    let told = func_last (funcs_of c.args.types.now) (funcs_of c.push_func.new.self) (func_def_type (types_of c.args.types.now) c.args.def) c.in-Ok.place c.in-Ok.ensures.pushed c.in-Ok.ensures.place in
    func_within c.args.types.now (funcs_of c.push_func.new.self) c.args.def c.in-Ok.place c.requires.parts told c.in-Ok.ensures.within
