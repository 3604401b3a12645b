-- The types in a type, and how each lies in memory and in core values (CanonicalABI.md,
-- "Alignment", "Element Size" and "Flattening"; that they are numbered is this project's own
-- choice).
use Rattle.std.specs.Prelude.{ℕ, zero, suc, ◌+◌, List, [], ◌∷◌, length, Option, None, Some}
use Rattle.std.specs.Prelude.{◌==◌, if◌then◌else◌, option_and_then, option_map}
use Rattle.cm_types.specs.Types.{Ty, Fields, Cases, bool, signed, unsigned, char, string, list}
use Rattle.cm_types.specs.Types.{fixed_list, fields, cases, flags, own, borrow, no_fields, field}
use Rattle.cm_types.specs.Types.{no_cases, plain, carrying}
use Rattle.cm_layout.specs.Alignment.{align_to}
use Rattle.cm_layout.specs.Flattening.{flat_of}
use Rattle.cm_layout.specs.Sizes.{align_of, case_count, discriminant_size_of, field_count}
use Rattle.cm_layout.specs.Sizes.{payload_offset, size_of}
use Rattle.huxarte_c_calls.specs.declared.nodes.HuxNode.{HuxNode}
use Rattle.huxarte_c_calls.specs.declared.nodes.HuxSort.{HuxSort}
use Rattle.huxarte_c_calls.specs.declared.nodes.HuxSort.TheVariants as sort

-- a type, and where it stands in the one that holds it, in bytes
abbrev pub PlacedTy : Type 0
PlacedTy = ℕ × Ty

-- ---- the parts of a type

-- field n, where what stands before the fields ends here
abbrev pub field_at : Fields → ℕ → ℕ → Option PlacedTy
field_at no_fields end n = None
field_at (field l t fs) end zero = Some (align_to (align_of t) end, t)
field_at (field l t fs) end (suc n) = field_at fs (align_to (align_of t) end + size_of t) n

-- what case n carries, if anything
abbrev pub payload_at : Cases → ℕ → Option Ty
payload_at no_cases n = None
payload_at (plain l cs) zero = None
payload_at (plain l cs) (suc n) = payload_at cs n
payload_at (carrying l t cs) zero = Some t
payload_at (carrying l t cs) (suc n) = payload_at cs n

-- Part n of a type: an element, which is part 0; field n; or what case n carries. An element of a
-- list lies elsewhere.
abbrev pub part_of : Ty → ℕ → Option PlacedTy
part_of (list t) n = if n == 0 then Some (0, t) else None
part_of (fixed_list t count) n = if n == 0 then Some (0, t) else None
part_of (fields k fs) n = field_at fs 0 n
part_of (cases k cs) n = option_map (λ t. (payload_offset cs, t)) (payload_at cs n)
part_of _ n = None

-- what a path leads to: a part, a part of that, and so on
abbrev pub part_along : List ℕ → PlacedTy → Option PlacedTy
part_along [] p = Some p
part_along (n ∷ path) p = option_and_then (part_along path) (part_of p.1 n)

-- ---- the numbers of a type

-- the number by which a sort is known
abbrev pub sort_number : HuxSort → ℕ
sort_number sort.Bool = 0
sort_number sort.Signed = 1
sort_number sort.Unsigned = 2
sort_number sort.Char = 3
sort_number sort.Flags = 4
sort_number sort.String = 5
sort_number sort.List = 6
sort_number sort.FixedList = 7
sort_number sort.Fields = 8
sort_number sort.Cases = 9
sort_number sort.Own = 10
sort_number sort.Borrow = 11

-- what a type is, as CanonicalABI.md despecializes it
abbrev pub sort_of : Ty → HuxSort
sort_of bool = sort.Bool
sort_of (signed w) = sort.Signed
sort_of (unsigned w) = sort.Unsigned
sort_of char = sort.Char
sort_of string = sort.String
sort_of (list t) = sort.List
sort_of (fixed_list t n) = sort.FixedList
sort_of (fields k fs) = sort.Fields
sort_of (cases k cs) = sort.Cases
sort_of (flags ls) = sort.Flags
sort_of (own r) = sort.Own
sort_of (borrow r) = sort.Borrow

-- how many labels, elements in place, fields or cases it has
abbrev pub count_of : Ty → ℕ
count_of (fixed_list t n) = n
count_of (fields k fs) = field_count fs
count_of (cases k cs) = case_count cs
count_of (flags ls) = length ls
count_of _ = 0

-- a type that stands there
abbrev pub node_of : PlacedTy → HuxNode
node_of (offset, t) = record {
  sort = sort_number (sort_of t);
  offset = offset;
  size = size_of t;
  align = align_of t;
  width = length (flat_of t);
  discriminant = discriminant_size_of t;
  count = count_of t;
}

-- the type that a path leads to from one
abbrev pub node_at : Ty → List ℕ → Option HuxNode
node_at t path = option_map node_of (part_along path (0, t))
