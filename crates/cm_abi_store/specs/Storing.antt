-- What is stored of a value by its layout (CanonicalABI.md, "Storing").
use Rattle.std.specs.Prelude.{ℕ, zero, suc, ◌+◌, List, [], ◌++◌, if◌then◌else◌}
use Rattle.std.specs.Prelude.{Option, Some, None}
use Rattle.cm_types.specs.Values.{Val, Vals, no_vals, val, truth, signed_number, number, scalar}
use Rattle.cm_types.specs.Values.{text, elements, parts, bare, bearing, flag_set, handle, count_of}
use Rattle.cm_layout.specs.Laid.{leaf_size}
use Rattle.cm_layout.specs.Shapes.{LayoutTy, Shape, Parts, Payloads, leaf_shape, string_shape}
use Rattle.cm_layout.specs.Shapes.{list_shape, fixed_list_shape, fields_shape, cases_shape}
use Rattle.cm_layout.specs.Shapes.{handle_shape, no_parts, part, no_payloads, nothing, carried}
use Rattle.cm_abi_model.specs.Parts.{part_count, handle_count}
use Rattle.cm_abi_model.specs.Requests.{stored_charset, text_bytes, text_units}
use Rattle.cm_abi_model.specs.Stores.{Given, Placed, bytes_of, from_signed, number_of, place_of}
use Rattle.cm_abi_model.specs.Stores.{placed, pointer_bytes, store_each}
use Rattle.cm_abi_store.specs.declared.target.Target.{Target}

-- what the code's target gives for a lowering
abbrev pub given_of : Target → Given
given_of t =
    record {
      places = t.places.now;
      numbers = t.numbers.now;
      charset = stored_charset t.encoding;
    }

-- the number that a leaf is stored as, a signed one in two's complement of 64 bits, of which the
-- lowest bytes are those of fewer bits
abbrev pub number_in : Val → ℕ
number_in (truth b) = if b then 1 else 0
number_in (signed_number z) = from_signed 8 z
number_in (number n) = n
number_in (scalar c) = c
number_in (flag_set n) = n
number_in v = 0

abbrev mutual
  -- the bytes of a value whose type has this shape, each at its address, with all that its pointers
  -- lead to
  pub stored_by : Given → Shape → Val → ℕ → ℕ → ℕ → List Placed
  stored_by g (leaf_shape l) v p k h = placed p (bytes_of (leaf_size l) (number_in v))
  stored_by g string_shape (text cs) p k h =
      pointer_bytes p (place_of g k) (text_units g.charset cs)
      ++ placed (place_of g k) (text_bytes g.charset cs)
  stored_by g (list_shape e s) (elements vs) p k h =
      pointer_bytes p (place_of g k) (count_of vs)
      ++ store_each (stored_by g s) e.size vs (place_of g k) (k + 1) h
  stored_by g (fixed_list_shape e s n) (parts vs) p k h =
      store_each (stored_by g s) e.size vs p k h
  stored_by g (fields_shape ps) (parts vs) p k h = stored_by_fields g ps vs p k h
  stored_by g (cases_shape d o ps) (bare i) p k h = placed p (bytes_of d i)
  stored_by g (cases_shape d o ps) (bearing i v) p k h =
      placed p (bytes_of d i) ++ stored_by_case g ps i v (p + o) k h
  stored_by g (handle_shape x) (handle e) p k h = placed p (bytes_of 4 (number_of g h))
  stored_by g s v p k h = []

  -- those of fields
  pub stored_by_fields : Given → Parts → Vals → ℕ → ℕ → ℕ → List Placed
  stored_by_fields g no_parts vs p k h = []
  stored_by_fields g (part o e s ps) no_vals p k h = []
  stored_by_fields g (part o e s ps) (val v vs) p k h =
      stored_by g s v (p + o) k h
      ++ stored_by_fields g ps vs p (k + part_count v) (h + handle_count v)

  -- those of what the case of this number carries
  pub stored_by_case : Given → Payloads → ℕ → Val → ℕ → ℕ → ℕ → List Placed
  stored_by_case g no_payloads i v p k h = []
  stored_by_case g (nothing ps) zero v p k h = []
  stored_by_case g (nothing ps) (suc i) v p k h = stored_by_case g ps i v p k h
  stored_by_case g (carried e s ps) zero v p k h = stored_by g s v p k h
  stored_by_case g (carried e s ps) (suc i) v p k h = stored_by_case g ps i v p k h

-- those of what one case carries
abbrev pub stored_by_payload : Given → Option LayoutTy → Val → ℕ → ℕ → ℕ → List Placed
stored_by_payload g None v p k h = []
stored_by_payload g (Some l) v p k h = stored_by g l.shape v p k h
