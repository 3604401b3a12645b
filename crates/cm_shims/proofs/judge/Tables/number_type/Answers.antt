use Rattle.std.proofs.Common.{◌∙◌, sym, ap}
use Rattle.cm_types_arena.specs.Placed.{placed_type}
use Rattle.cm_types_arena.specs.Places.{types_of}
use Rattle.cm_types_numbers.specs.Numbering.{number, numbering}
use Rattle.cm_shims.proofs.judge.Tables.number_type.Goals as goal
use Rattle.cm_lemmas.proofs.Results.{if_ok_more}

pub returns-clause-number : goal.returns-clause-number
returns-clause-number c =
    if_ok_more c.number_type.result _ _ c.number_type.ensures.number (λ n h. ap (number (numbering c.number_type.new.numbers)) (sym (c.unmoved.ensures.types (placed_type (types_of c.args.arena.now) c.args.ty))) ∙ h)
