use Rattle.std.proofs.Common.{◌∙◌, sym}
use Rattle.cm_types.specs.TypeTrees.{type_of}
use Rattle.cm_types.specs.ValueTrees.{value_of}
use Rattle.cm_types.proofs.TypedValueLaws.{sound, complete}
use Rattle.cm_types.proofs.typed_values.has_type.Goals as goal

pub returns : goal.returns
returns c = (
  λ h. sound (type_of c.args.ty.now.root) (value_of c.args.value.now) (sym c.node_has_type.ensures ∙ h),
  λ e. c.node_has_type.ensures ∙ complete (type_of c.args.ty.now.root) (value_of c.args.value.now) e,
)
