use Rattle.std.proofs.Common.{◌∙◌, sym}
use Rattle.cm_types.specs.Funcs.{func_of}
use Rattle.cm_types_arena.proofs.SameTypeLaws.{func_sound, func_complete}
use Rattle.cm_types_arena.proofs.same_types.same_func.Goals as goal

pub returns : goal.returns
returns c = (
  λ h. func_sound c.args.left.now c.args.right.now (func_of c.args.a.now) (func_of c.args.b.now) (sym c.same_parts_of_func.ensures ∙ h),
  λ e. c.same_parts_of_func.ensures ∙ func_complete c.args.left.now c.args.right.now (func_of c.args.a.now) (func_of c.args.b.now) e,
)
