-- What a type holds, in order, and where it begins.
use Rattle.std.specs.Prelude.{ℕ, ◌+◌, Bool, true, false, List, [], ◌∷◌, Option, Some, None, map}
use Rattle.std.specs.Prelude.{slice_index_or}
use Rattle.std.specs.declared.alloc.Global.{Global}
use Rattle.std.specs.declared.sync.Arc.{Arc}
use Rattle.std.specs.declared.vec.Vec.{Vec}
use Rattle.cm_layout.specs.Shapes.{LayoutTy, Shape, Parts, Payloads, leaf_shape, string_shape}
use Rattle.cm_layout.specs.Shapes.{list_shape, fixed_list_shape, fields_shape, cases_shape}
use Rattle.cm_layout.specs.Shapes.{handle_shape, no_parts, part, no_payloads, nothing, carried}

-- the shapes of fields, where these begin in bytes, and in core values from this one on
abbrev pub part_shapes : Parts → List Shape
part_shapes no_parts = []
part_shapes (part o e x ps) = x ∷ part_shapes ps

abbrev pub part_offsets : Parts → List ℕ
part_offsets no_parts = []
part_offsets (part o e x ps) = o ∷ part_offsets ps

abbrev pub slot_offsets : Parts → ℕ → List ℕ
slot_offsets no_parts at = []
slot_offsets (part o e x ps) at = at ∷ slot_offsets ps (at + e.width)

-- the shapes of what cases carry
abbrev pub payload_shapes : Payloads → List Shape
payload_shapes no_payloads = []
payload_shapes (nothing ps) = payload_shapes ps
payload_shapes (carried e x ps) = x ∷ payload_shapes ps

-- the shapes that a shape holds
abbrev pub shapes_in : Shape → List Shape
shapes_in (leaf_shape l) = []
shapes_in string_shape = []
shapes_in (list_shape e x) = x ∷ []
shapes_in (fixed_list_shape e x n) = x ∷ []
shapes_in (fields_shape ps) = part_shapes ps
shapes_in (cases_shape b d ps) = payload_shapes ps
shapes_in (handle_shape h) = []

-- what a value of this shape holds lies elsewhere, however the value is passed
abbrev pub is_list : Shape → Bool
is_list (list_shape e x) = true
is_list _ = false

-- the members of shared lists, and those of the list of a number
abbrev pub items_of : {A : Type 0} → List (Arc (Vec A Global) Global) → List (List A)
items_of cs = map (λ c. c.value.items) cs

abbrev pub items_at : {A : Type 0} → List (List A) → ℕ → List A
items_at ls n = slice_index_or ls n []

-- for each case the list of what it carries, the next one of these, and an empty one for nothing
abbrev pub spread : {A : Type 0} → List (Option LayoutTy) → List (List A) → List (List A)
spread [] ls = []
spread (None ∷ ps) ls = [] ∷ spread ps ls
spread (Some l ∷ ps) [] = [] ∷ spread ps []
spread (Some l ∷ ps) (c ∷ ls) = c ∷ spread ps ls
