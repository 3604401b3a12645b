-- The handles of a value by its layout (CanonicalABI.md, "Storing" of own and borrow).
use Rattle.std.specs.Prelude.{ℕ, zero, suc, List, [], ◌∷◌, ◌++◌, Option, Some, None}
use Rattle.cm_types.specs.Values.{Val, Vals, no_vals, val, elements, parts, bearing}
use Rattle.cm_types.specs.Values.{handle}
use Rattle.cm_layout.specs.Shapes.{Shape, Parts, Payloads, LayoutTy, list_shape, fixed_list_shape}
use Rattle.cm_layout.specs.Shapes.{fields_shape, cases_shape, handle_shape, no_parts, part}
use Rattle.cm_layout.specs.Shapes.{no_payloads, nothing, carried}
use Rattle.cm_abi_model.specs.Receives.{HandleLeaf, leaves_each}
use Rattle.cm_abi_model.specs.HandleLeaves.{leaf_by}

abbrev mutual
  -- the handles of a value whose type has this shape, in reading order
  pub leaves_by : Shape → Val → List HandleLeaf
  leaves_by (list_shape e s) (elements vs) = leaves_each (leaves_by s) vs
  leaves_by (fixed_list_shape e s n) (parts vs) = leaves_each (leaves_by s) vs
  leaves_by (fields_shape ps) (parts vs) = leaves_by_fields ps vs
  leaves_by (cases_shape d o ps) (bearing i v) = leaves_by_case ps i v
  leaves_by (handle_shape t) (handle h) = leaf_by t h ∷ []
  leaves_by s v = []

  -- those of fields
  pub leaves_by_fields : Parts → Vals → List HandleLeaf
  leaves_by_fields no_parts vs = []
  leaves_by_fields (part o e s ps) no_vals = []
  leaves_by_fields (part o e s ps) (val v vs) = leaves_by s v ++ leaves_by_fields ps vs

  -- those of what the case of this number carries
  pub leaves_by_case : Payloads → ℕ → Val → List HandleLeaf
  leaves_by_case no_payloads i v = []
  leaves_by_case (nothing ps) zero v = []
  leaves_by_case (nothing ps) (suc i) v = leaves_by_case ps i v
  leaves_by_case (carried e s ps) zero v = leaves_by s v
  leaves_by_case (carried e s ps) (suc i) v = leaves_by_case ps i v

-- those of what one case carries
abbrev pub leaves_by_payload : Option LayoutTy → Val → List HandleLeaf
leaves_by_payload None v = []
leaves_by_payload (Some l) v = leaves_by l.shape v
