use Rattle.std.proofs.Common.{◌∙◌, sym, ap}
use Rattle.cm_types_arena.specs.Placed.{placed_func}
use Rattle.cm_types_arena.specs.Places.{funcs_of}
use Rattle.cm_types_numbers.specs.Numbering.{number_func, numbering}
use Rattle.cm_shims.proofs.judge.Tables.number_func.Goals as goal
use Rattle.cm_lemmas.proofs.Results.{if_ok_more}

pub returns-clause-number : goal.returns-clause-number
returns-clause-number c =
    if_ok_more c.number_func_type.result _ _ c.number_func_type.ensures.number (λ n h. ap (number_func (numbering c.number_func_type.new.numbers)) (sym (c.unmoved.ensures.funcs (placed_func (funcs_of c.args.arena.now) c.args.ty))) ∙ h)
