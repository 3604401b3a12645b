-- What values and layouts the code's are.
use Rattle.std.proofs.Common.{◌≡◌, rules, ap, ◌∙◌}
use Rattle.cm_layout.specs.declared.heads.Head.{Head}
use Rattle.cm_layout.specs.declared.layouts.Part.{Part, out-Part}
use Rattle.cm_layout.specs.Layouts.{layout_of, part_of}
use Rattle.cm_layout.specs.Shapes.{LayoutTy}
use Rattle.cm_layout.specs.declared.layouts.Form.{the_lemmas as layout_lemmas}
use Rattle.cm_layout.specs.declared.layouts.Layout.{Layout, out-Layout}
use Rattle.cm_layout.proofs.LayoutLemmas.{seen_head}

pub seen_part : (p : Part) → (part_of p).1 ≡ layout_of (out-Part p).layout
seen_part p = search (rules, layout_lemmas)

pub seen_width : (l : Layout) → (layout_of l).head.width ≡ (out-Layout l).head.width
seen_width l = ap (λ (h : Head). h.width) (seen_head l)

pub seen_part_width : (p : Part) → (part_of p).1.head.width ≡ (out-Layout (out-Part p).layout).head.width
seen_part_width p = ap (λ (l : LayoutTy). l.head.width) (seen_part p) ∙ seen_width (out-Part p).layout
