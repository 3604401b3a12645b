-- The numbers of a layout: those of the type whose layout it is (`Nodes`).
use Rattle.std.specs.Prelude.{ℕ, zero, suc, List, [], ◌∷◌, Option, None, Some}
use Rattle.std.specs.Prelude.{◌==◌, if◌then◌else◌, option_and_then, option_map}
use Rattle.cm_layout.specs.Shapes.{LayoutTy, Shape, Parts, Payloads, leaf_shape, string_shape}
use Rattle.cm_layout.specs.Shapes.{list_shape, fixed_list_shape, fields_shape, cases_shape}
use Rattle.cm_layout.specs.Shapes.{handle_shape, no_parts, part, no_payloads, nothing, carried}
use Rattle.cm_layout.specs.declared.layouts.HandleType.{HandleType}
use Rattle.cm_layout.specs.declared.layouts.HandleType.TheVariants as handle
use Rattle.cm_layout.specs.declared.layouts.Leaf.{Leaf}
use Rattle.cm_layout.specs.declared.layouts.Leaf.TheVariants as leaf
use Rattle.huxarte_c_calls.specs.declared.nodes.HuxNode.{HuxNode}
use Rattle.huxarte_c_calls.specs.declared.nodes.HuxSort.{HuxSort}
use Rattle.huxarte_c_calls.specs.declared.nodes.HuxSort.TheVariants as sort
use Rattle.huxarte_c_calls.specs.Nodes.{sort_number}

-- a layout, and where it stands in the one that holds it
abbrev pub PlacedLayout : Type 0
PlacedLayout = ℕ × LayoutTy

abbrev pub part_at : Parts → ℕ → Option PlacedLayout
part_at no_parts n = None
part_at (part o h s ps) zero = Some (o, record { head = h; shape = s })
part_at (part o h s ps) (suc n) = part_at ps n

abbrev pub carried_at : Payloads → ℕ → Option LayoutTy
carried_at no_payloads n = None
carried_at (nothing ps) zero = None
carried_at (nothing ps) (suc n) = carried_at ps n
carried_at (carried h s ps) zero = Some (record { head = h; shape = s })
carried_at (carried h s ps) (suc n) = carried_at ps n

-- an element, which is part 0
abbrev pub element_at : LayoutTy → ℕ → Option PlacedLayout
element_at l n = if n == 0 then Some (0, l) else None

-- what case n carries, where payloads stand there
abbrev pub case_at : ℕ → Option LayoutTy → Option PlacedLayout
case_at offset payload = option_map (λ l. (offset, l)) payload

-- part n of a layout
abbrev pub part_in : Shape → ℕ → Option PlacedLayout
part_in (list_shape h s) n = element_at (record { head = h; shape = s }) n
part_in (fixed_list_shape h s count) n = element_at (record { head = h; shape = s }) n
part_in (fields_shape ps) n = part_at ps n
part_in (cases_shape d o ps) n = case_at o (carried_at ps n)
part_in _ n = None

-- what a path leads to
abbrev pub layout_along : List ℕ → PlacedLayout → Option PlacedLayout
layout_along [] p = Some p
layout_along (n ∷ path) p = option_and_then (layout_along path) (part_in p.1.shape n)

abbrev pub leaf_sort : Leaf → HuxSort
leaf_sort leaf.Bool = sort.Bool
leaf_sort (leaf.Signed w) = sort.Signed
leaf_sort (leaf.Unsigned w) = sort.Unsigned
leaf_sort leaf.Char = sort.Char
leaf_sort (leaf.Flags n w) = sort.Flags

abbrev pub handle_sort : HandleType → HuxSort
handle_sort (handle.Own r) = sort.Own
handle_sort (handle.Borrow r) = sort.Borrow

abbrev pub sort_in : Shape → HuxSort
sort_in (leaf_shape k) = leaf_sort k
sort_in string_shape = sort.String
sort_in (list_shape h s) = sort.List
sort_in (fixed_list_shape h s n) = sort.FixedList
sort_in (fields_shape ps) = sort.Fields
sort_in (cases_shape d o ps) = sort.Cases
sort_in (handle_shape h) = handle_sort h

abbrev pub discriminant_in : Shape → ℕ
discriminant_in (cases_shape d o ps) = d
discriminant_in _ = 0

abbrev pub part_count : Parts → ℕ
part_count no_parts = 0
part_count (part o h s ps) = suc (part_count ps)

abbrev pub payload_count : Payloads → ℕ
payload_count no_payloads = 0
payload_count (nothing ps) = suc (payload_count ps)
payload_count (carried h s ps) = suc (payload_count ps)

abbrev pub leaf_count : Leaf → ℕ
leaf_count (leaf.Flags n w) = n
leaf_count _ = 0

abbrev pub count_in : Shape → ℕ
count_in (leaf_shape k) = leaf_count k
count_in (fixed_list_shape h s n) = n
count_in (fields_shape ps) = part_count ps
count_in (cases_shape d o ps) = payload_count ps
count_in _ = 0

-- a layout that stands there
abbrev pub node_in : PlacedLayout → HuxNode
node_in (offset, l) = record {
  sort = sort_number (sort_in l.shape);
  offset = offset;
  size = l.head.size;
  align = l.head.align;
  width = l.head.width;
  discriminant = discriminant_in l.shape;
  count = count_in l.shape;
}
