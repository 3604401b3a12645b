-- Laws of what Layouts defines, for this crate and those above it.
use Rattle.std.proofs.Common.{List, ℕ, ◌<◌, length, ◌≡◌, get_or, map, drop, ◌+◌, ◌∷◌, add-one, drop-cons, refl, rules}
use Rattle.cm_layout.specs.Layouts.{part_of, layout_of, shape_of}
use Rattle.cm_layout.specs.Shapes.{parts_from, part}
use Rattle.cm_layout.specs.declared.layouts.Form.{the_lemmas}
use Rattle.cm_layout.specs.declared.layouts.Layout.{Layout, out-Layout}
use Rattle.cm_layout.specs.declared.layouts.Part.{Part}

pub parts_next : (ps : List Part) (i : ℕ) (p : Part) → i < length ps → p ≡ get_or ps i p
    → parts_from (map part_of (drop i ps)) ≡ part (part_of p).0 (part_of p).1.head (part_of p).1.shape (parts_from (map part_of (drop (i + 1) ps)))
parts_next ps i p lt is =
    let split : drop i ps ≡ p ∷ drop (i + 1) ps = rw (add-one, drop-cons ps i p lt, ← is) refl in
    rw split refl

pub seen_shape : (l : Layout) → (layout_of l).shape ≡ shape_of (out-Layout l).form
seen_shape l = search (rules, the_lemmas)
