-- Laws of what Shapes defines, for this crate and those above it.
use Rattle.std.proofs.Common.{◌≡◌, rules}
use Rattle.cm_layout.specs.Layouts.{shape_of}
use Rattle.cm_layout.specs.Shapes.{handle_shape, leaf_shape}
use Rattle.cm_layout.specs.declared.layouts.Form.{the_lemmas}
use Rattle.cm_layout.specs.declared.layouts.Form.TheVariants as variant
use Rattle.cm_layout.specs.declared.layouts.HandleType.{HandleType}
use Rattle.cm_layout.specs.declared.layouts.Leaf.{Leaf}

pub seen_Handle : (h : HandleType) → shape_of (variant.Handle h) ≡ handle_shape h
seen_Handle h = search (rules, the_lemmas)

pub seen_Leaf : (k : Leaf) → shape_of (variant.Leaf k) ≡ leaf_shape k
seen_Leaf k = search (rules, the_lemmas)
