-- Values of which nothing is to be looked at (CanonicalABI.md, "Loading").
use Rattle.std.specs.Prelude.{⊤}
use Rattle.cm_layout.specs.declared.layouts.Leaf.{Leaf}
use Rattle.cm_layout.specs.declared.layouts.Leaf.TheVariants as leaf
use Rattle.cm_layout.specs.Shapes.{Shape, leaf_shape, string_shape, list_shape}
use Rattle.cm_layout.specs.Shapes.{fixed_list_shape, fields_shape, cases_shape, handle_shape}

-- each number is a value of the leaf, which is so of all but a char
abbrev pub IsPlainLeaf : Leaf → Type 0
IsPlainLeaf leaf.Bool = ⊤
IsPlainLeaf (leaf.Signed w) = ⊤
IsPlainLeaf (leaf.Unsigned w) = ⊤
IsPlainLeaf leaf.Char = ⊥
IsPlainLeaf (leaf.Flags labels w) = ⊤

-- a shape of such a leaf
abbrev pub IsPlain : Shape → Type 0
IsPlain (leaf_shape k) = IsPlainLeaf k
IsPlain string_shape = ⊥
IsPlain (list_shape e sh) = ⊥
IsPlain (fixed_list_shape e sh n) = ⊥
IsPlain (fields_shape ps) = ⊥
IsPlain (cases_shape d o ps) = ⊥
IsPlain (handle_shape h) = ⊥
