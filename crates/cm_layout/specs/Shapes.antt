-- The layout of a type and of all types in it, as one tree (CanonicalABI.md, "Alignment", "Element
-- Size" and "Flattening").
use Rattle.std.specs.Prelude.{ℕ, ◌+◌, length, List, [], ◌∷◌, Option, Some, None, true, false}
use Rattle.cm_types.specs.Types.{Ty, Fields, Cases, width_bytes, bool, signed, unsigned, char}
use Rattle.cm_types.specs.Types.{string, list, fixed_list, fields, cases, flags, own, borrow}
use Rattle.cm_types.specs.Types.{tuple_type, no_fields, field, no_cases, plain, carrying}
use Rattle.cm_layout.specs.Alignment.{align_to}
use Rattle.cm_layout.specs.Sizes.{align_of, case_count, discriminant_size, flags_size}
use Rattle.cm_layout.specs.Sizes.{payload_offset, size_of}
use Rattle.cm_layout.specs.Flattening.{flat_of}
use Rattle.cm_layout.specs.PlainBytes.{is_bulk}
use Rattle.cm_layout.specs.declared.heads.Head.{Head}
use Rattle.cm_layout.specs.declared.layouts.Leaf.{Leaf}
use Rattle.cm_layout.specs.declared.layouts.Leaf.TheVariants as leaf
use Rattle.cm_layout.specs.declared.layouts.HandleType.{HandleType}
use Rattle.cm_layout.specs.declared.layouts.HandleType.TheVariants as handle

-- Shapes: what a type is, with size, alignment, width and shape of each type in it.
mutual
  pub data Shape : Type 0 where
    leaf_shape : Leaf → Shape
    string_shape : Shape
    -- the element's
    list_shape : Head → Shape → Shape
    -- the element's, and how many there are
    fixed_list_shape : Head → Shape → ℕ → Shape
    fields_shape : Parts → Shape
    -- the size of the number of a case, where the payload stands, and what each case carries
    cases_shape : ℕ → ℕ → Payloads → Shape
    handle_shape : HandleType → Shape

  -- fields in order, each with where it stands in the whole
  pub data Parts : Type 0 where
    no_parts : Parts
    part : ℕ → Head → Shape → Parts → Parts

  -- what the cases carry, in order
  pub data Payloads : Type 0 where
    no_payloads : Payloads
    nothing : Payloads → Payloads
    carried : Head → Shape → Payloads → Payloads

-- size, alignment and width of a type, and whether it is plain bytes; and its shape
pub record LayoutTy : Type 0 where
  pub head : Head
  pub shape : Shape

-- fields from a list, each with where it stands
abbrev pub parts_from : List (ℕ × LayoutTy) → Parts
parts_from [] = no_parts
parts_from (p ∷ ps) = part p.0 p.1.head p.1.shape (parts_from ps)

-- what one case carries, if anything, and others
abbrev pub payload_before : Option LayoutTy → Payloads → Payloads
payload_before None ps = nothing ps
payload_before (Some l) ps = carried l.head l.shape ps

-- what cases carry, from a list
abbrev pub payloads_from : List (Option LayoutTy) → Payloads
payloads_from [] = no_payloads
payloads_from (p ∷ ps) = payload_before p (payloads_from ps)

-- what a leaf takes
abbrev pub leaf_head : Leaf → Head
leaf_head leaf.Bool = record { size = 1; align = 1; width = 1; is_bulk = false }
leaf_head (leaf.Signed w) = record { size = w; align = w; width = 1; is_bulk = true }
leaf_head (leaf.Unsigned w) = record { size = w; align = w; width = 1; is_bulk = true }
leaf_head leaf.Char = record { size = 4; align = 4; width = 1; is_bulk = false }
leaf_head (leaf.Flags n w) = record { size = w; align = w; width = 1; is_bulk = false }

-- what a handle takes
abbrev pub handle_head : Head
handle_head = record { size = 4; align = 4; width = 1; is_bulk = false }

-- size and alignment in bytes, how many core values pass it, and whether it is plain bytes
abbrev pub head_of : Ty → Head
head_of t =
    record {
      size = size_of t;
      align = align_of t;
      width = length (flat_of t);
      is_bulk = is_bulk t;
    }

-- what fields take, as the tuple of them does
abbrev pub head_of_fields : Fields → Head
head_of_fields fs = head_of (fields tuple_type fs)

abbrev mutual
  -- the shape of a type
  pub shape_of_type : Ty → Shape
  shape_of_type bool = leaf_shape leaf.Bool
  shape_of_type (signed w) = leaf_shape (leaf.Signed (width_bytes w))
  shape_of_type (unsigned w) = leaf_shape (leaf.Unsigned (width_bytes w))
  shape_of_type char = leaf_shape leaf.Char
  shape_of_type string = string_shape
  shape_of_type (list t) = list_shape (head_of t) (shape_of_type t)
  shape_of_type (fixed_list t n) = fixed_list_shape (head_of t) (shape_of_type t) n
  shape_of_type (fields k fs) = fields_shape (parts_from (parts_at fs 0))
  shape_of_type (cases k cs) =
      cases_shape (discriminant_size (case_count cs)) (payload_offset cs)
      (payloads_from (payloads_of cs))
  shape_of_type (flags ls) = leaf_shape (leaf.Flags (length ls) (flags_size (length ls)))
  shape_of_type (own r) = handle_shape (handle.Own r)
  shape_of_type (borrow r) = handle_shape (handle.Borrow r)

  -- the fields, if what is before them ends here
  pub parts_at : Fields → ℕ → List (ℕ × LayoutTy)
  parts_at no_fields at = []
  parts_at (field l t fs) at =
      (align_to (align_of t) at, record { head = head_of t; shape = shape_of_type t })
      ∷ parts_at fs (align_to (align_of t) at + size_of t)

  -- what the cases carry
  pub payloads_of : Cases → List (Option LayoutTy)
  payloads_of no_cases = []
  payloads_of (plain l cs) = None ∷ payloads_of cs
  payloads_of (carrying l t cs) =
      Some (record { head = head_of t; shape = shape_of_type t }) ∷ payloads_of cs

-- the layout of a type
abbrev pub layout_at : Ty → LayoutTy
layout_at t = record { head = head_of t; shape = shape_of_type t }

-- the layout of fields, as that of the tuple of them
abbrev pub layout_of_fields_at : Fields → LayoutTy
layout_of_fields_at fs = layout_at (fields tuple_type fs)
