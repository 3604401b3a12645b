use Rattle.std.proofs.Common.{◌∙◌, ◌++◌, ap}
use Rattle.cm_types.specs.Values.{parts}
use Rattle.cm_layout.specs.Layouts.{layout_of}
use Rattle.cm_layout.specs.Shapes.{LayoutTy}
use Rattle.cm_types.specs.ValueTrees.{values_of}
use Rattle.cm_abi_model.specs.Requests.{tuple_of}
use Rattle.cm_abi_lower.specs.Leaves.{leaves_by}
use Rattle.cm_abi_model.specs.HandleLeaves.{leaves_of}
use Rattle.cm_abi_lower.proofs.LeafLemmas.{same_leaves}
use Rattle.cm_abi_lower.proofs.leaves.leaves.Goals as goal

pub returns : goal.returns
returns c =
    λ types layout_is typed.
    c.in_ok-collect_values.ensures ∙ (ap (λ ls. leaves_of ls ++ leaves_by (layout_of c.args.layout.now).shape (parts (values_of c.args.values.now))) c.new-leaves.ensures.items
    ∙ (ap (λ (l : LayoutTy). leaves_by l.shape (parts (values_of c.args.values.now))) layout_is ∙ same_leaves (tuple_of types) (parts (values_of c.args.values.now)) typed))
