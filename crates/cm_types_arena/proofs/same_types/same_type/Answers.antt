use Rattle.std.proofs.Common.{◌∙◌, sym}
use Rattle.cm_types.specs.TypeTrees.{type_of}
use Rattle.cm_types_arena.proofs.SameTypeLaws.{sound, complete}
use Rattle.cm_types_arena.proofs.same_types.same_type.Goals as goal

pub returns : goal.returns
returns c = (
  λ h. sound c.args.left.now c.args.right.now (type_of c.args.a.now) (type_of c.args.b.now) (sym c.same_node.ensures ∙ h),
  λ e. c.same_node.ensures ∙ complete c.args.left.now c.args.right.now (type_of c.args.a.now) (type_of c.args.b.now) e,
)
