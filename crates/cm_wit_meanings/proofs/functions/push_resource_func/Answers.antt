use Rattle.std.proofs.Common.{rules, subst, List, sym}
use Rattle.cm_types.specs.Types.{Ty, FuncTy}
use Rattle.cm_types_arena.specs.Places.{funcs_of, types_of}
use Rattle.cm_wit_meanings.specs.Places.{Extends}
use Rattle.cm_wit_meanings.proofs.FuncLaws.{func_placed, func_unplaced}
use Rattle.cm_wit_meanings.proofs.functions.push_resource_func.Goals as goal
use Rattle.cm_wit_meanings.proofs.GrowthLaws.{extends_same}

pub push_func_def-requires : goal.push_func_def-requires
push_func_def-requires c = record { parts = c.in_ok-def.ensures.there }

pub returns-in_err-def-clause-fault : goal.returns-in_err-def-clause-fault
returns-in_err-def-clause-fault c = let h = c.in_err-def.ensures.fault in search (rules, h)

pub returns-in_err-def-clause-grown : goal.returns-in_err-def-clause-grown
returns-in_err-def-clause-grown c = c.in_err-def.ensures.grown

pub returns-in_err-def-clause-funcs : goal.returns-in_err-def-clause-funcs
returns-in_err-def-clause-funcs c = extends_same (funcs_of c.args.types.now) (funcs_of c.resource_func_def.new.types) c.in_err-def.ensures.funcs

pub returns-clause-there : goal.returns-clause-there
returns-clause-there c = c.push_func_def.ensures.there

pub returns-clause-meaning : goal.returns-clause-meaning
returns-clause-meaning c = func_placed _ _ _ c.push_func_def.result c.in_ok-def.ensures.meaning c.push_func_def.ensures.ty

pub returns-clause-within : goal.returns-clause-within
returns-clause-within c = c.push_func_def.ensures.within

pub returns-clause-fault : goal.returns-clause-fault
returns-clause-fault c = func_unplaced _ _ c.push_func_def.result c.in_ok-def.ensures.meaning c.push_func_def.ensures.fault

pub returns-clause-grown : goal.returns-clause-grown
returns-clause-grown c = subst (λ (ts : List Ty). Extends (types_of c.args.types.now) ts) (sym c.push_func_def.ensures.types) c.in_ok-def.ensures.grown

pub returns-clause-funcs : goal.returns-clause-funcs
returns-clause-funcs c = subst (λ (fs : List FuncTy). Extends fs (funcs_of c.push_func_def.new.types)) c.in_ok-def.ensures.funcs c.push_func_def.ensures.grown
