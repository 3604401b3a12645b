-- What layouts the code's are.
use Rattle.std.proofs.Common.{◌≡◌, ◌∙◌, ℕ, [], ap}
use Rattle.cm_layout.specs.Layouts.{layout_of, shape_of}
use Rattle.cm_layout.specs.declared.layouts.Form.TheVariants as variant
use Rattle.cm_layout.specs.declared.layouts.Layout.{Layout, out-Layout}
use Rattle.cm_types.specs.Values.{Val}
use Rattle.cm_abi_lower.specs.Leaves.{leaves_by}
use Rattle.cm_abi_lower.proofs.LeafLemmas.{enum_leaves}
use Rattle.cm_layout.proofs.LayoutLemmas.{seen_form_Enum}
use Rattle.cm_layout.proofs.LayoutsLaws.{seen_shape}

-- an enum has no handles
pub enum_has_none : (l : Layout) (d n : ℕ) (v : Val) → (out-Layout l).form ≡ variant.Enum d n → leaves_by (layout_of l).shape v ≡ []
enum_has_none l d n v is = ap (λ s. leaves_by s v) (seen_shape l ∙ (ap shape_of is ∙ seen_form_Enum d n)) ∙ enum_leaves d n v
